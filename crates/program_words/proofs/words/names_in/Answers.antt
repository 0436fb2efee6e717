use Rattle.std.proofs.Common.{refl, ap, sym, ◌∙◌}
use Rattle.program_words.specs.Words.{is_dashes}
use Rattle.program_words.proofs.WordLaws.{names_with}
use Rattle.program_words.proofs.words.names_in.Goals as goal

pub returns-then-are_full : goal.returns-then-are_full
returns-then-are_full c =
    rw (names_with c.args.words.now c.first-item.result c.in-len1-up.len_at_least c.first-item.is, ap is_dashes (sym c.as_str.ensures.value) ∙ sym c.is_dashes.ensures ∙ c.if-is_dashes.true, sym c.are_full.ensures ∙ c.if-are_full.true)
    refl

pub returns-then-is_dashes : goal.returns-then-is_dashes
returns-then-is_dashes c =
    rw (names_with c.args.words.now c.first-item.result c.in-len1-up.len_at_least c.first-item.is, ap is_dashes (sym c.as_str.ensures.value) ∙ sym c.is_dashes.ensures ∙ c.if-is_dashes.true, sym c.are_full.ensures ∙ c.if-are_full.false)
    refl

pub returns-then-are_names : goal.returns-then-are_names
returns-then-are_names c =
    rw (names_with c.args.words.now c.first-item.result c.in-len1-up.len_at_least c.first-item.is, ap is_dashes (sym c.as_str.ensures.value) ∙ sym c.is_dashes.ensures ∙ c.if-is_dashes.false, sym c.are_names.ensures ∙ c.if-are_names.true)
    refl

pub returns : goal.returns
returns c =
    rw (names_with c.args.words.now c.first-item.result c.in-len1-up.len_at_least c.first-item.is, ap is_dashes (sym c.as_str.ensures.value) ∙ sym c.is_dashes.ensures ∙ c.if-is_dashes.false, sym c.are_names.ensures ∙ c.if-are_names.false)
    refl

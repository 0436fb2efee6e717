use Rattle.std.specs.String.{string_bytes}
use Rattle.std.proofs.Common.{refl, sym, ap, ◌∙◌, drop, ◌+◌}
use Rattle.std.specs.Prelude.{Some}
use Rattle.program_words.specs.Words.{texts_of, with_option, with_options}
use Rattle.program_words.proofs.OptionLaws.{from_one}
use Rattle.program_words.proofs.options.Options.read.Goals as goal

pub returns-in_err-options : goal.returns-in_err-options
returns-in_err-options c =
    c.from_residual.ensures
    ∙ ap (λ o. with_options o (drop (c.loop-word.word-index + 1) (texts_of c.args.words.now)))
    (c.in_err-options.ensures ∙ ap (λ w. with_option c.loop-word.options w) c.as_str.ensures.value)
    ∙ ap (λ l. with_options (Some c.loop-word.options) l)
    (sym (from_one c.args.words.now c.loop-word.word-index c.word-item.result c.loop-word-test.true c.word-item.is))
    ∙ sym c.loop-word.invariant

pub loop-word-preserved : goal.loop-word-preserved
loop-word-preserved c =
    c.loop-word.invariant
    ∙ ap (λ l. with_options (Some c.loop-word.options) l)
    (from_one c.args.words.now c.loop-word.word-index c.word-item.result c.loop-word-test.true c.word-item.is)
    ∙ ap (λ o. with_options o (drop (c.loop-word.word-index + 1) (texts_of c.args.words.now)))
    (sym (c.in_ok-options.ensures ∙ ap (λ w. with_option c.loop-word.options w) c.as_str.ensures.value))

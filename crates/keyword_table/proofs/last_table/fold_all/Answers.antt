use Rattle.std.proofs.Common.{ℕ, ◌∙◌, get_or, set, ap, sym}
use Rattle.std.proofs.lemmas.List.Edits.{map_over_more}
use Rattle.std.proofs.lemmas.Grind.{get_or_default_zero}
use Rattle.unicode.specs.CaseFolding.{simple_fold}
use Rattle.keyword_table.proofs.last_table.fold_all.Goals as goal

pub loop-one-preserved : goal.loop-one-preserved
loop-one-preserved c =
    let word = c.loop-one.word in
    let index = c.loop-one.one-index in
    let one : ℕ = get_or word index 0 in
    let long = c.loop-one.auto.word in
    ap (set word index) c.fold_one.ensures
    ∙ map_over_more simple_fold c.args.word.now word index one
    c.loop-one-test.true c.loop-one.invariant (sym (get_or_default_zero word index one (rw long c.loop-one-test.true)))

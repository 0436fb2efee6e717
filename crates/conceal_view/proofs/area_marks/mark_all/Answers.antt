use Rattle.std.proofs.Common.{◌∙◌, set, ap, sym}
use Rattle.std.proofs.lemmas.List.Edits.{map_over_more}
use Rattle.conceal_view.specs.Marking.{in_mark, marked_pattern}
use Rattle.conceal_view.proofs.area_marks.mark_all.Goals as goal

pub loop-pattern-preserved : goal.loop-pattern-preserved
loop-pattern-preserved c =
    let patterns = c.loop-pattern.patterns in
    let index = c.loop-pattern.pattern-index in
    let mark = marked_pattern (in_mark c.args.areas.now.first c.args.areas.now.groups) in
    ap (set patterns index) (c.mark_pattern.ensures ∙ ap mark (sym c.pattern-item.is))
    ∙ map_over_more mark c.args.patterns.now patterns index c.pattern-item.result
    c.loop-pattern-test.true c.loop-pattern.invariant c.pattern-item.is

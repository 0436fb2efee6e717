use Rattle.std.proofs.Common.{◌∙◌, set, ap, sym}
use Rattle.std.proofs.lemmas.List.Edits.{map_over_more}
use Rattle.syntax_set.specs.Allowed.{cleared}
use Rattle.syntax_set.proofs.item_set.clear_all.Goals as goal

pub loop-added-preserved : goal.loop-added-preserved
loop-added-preserved c =
    let items = c.loop-added.items in
    let index = c.loop-added.added-index in
    ap (set items index) (c.clear.ensures ∙ ap (cleared c.args.group) (sym c.added-item.is))
    ∙ map_over_more (cleared c.args.group) c.args.items.now items index c.added-item.result
    c.loop-added-test.true c.loop-added.invariant c.added-item.is

use Rattle.std.proofs.Common.{sym}
use Rattle.item_pick.specs.Common.{rules_by}
use Rattle.item_pick.proofs.NeedLaws.{needed-by-any}
use Rattle.item_pick.proofs.asked.Asked.need_of.Goals as goal

pub returns-in-Region : goal.returns-in-Region
returns-in-Region c =
    needed-by-any (rules_by c.args.self.now) c.args.id c.item_of-item.result.now c.in-Region.starts c.in-Region.skip c.in-Region.ends (sym c.item_of-item.ensures) c.in-Region.is c.need_of_any.result
    (rw c.as_slice.ensures at c.need_of_any.ensures)

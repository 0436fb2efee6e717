use Rattle.item_pick.proofs.ToldLaws.{told_then}
use Rattle.item_pick.proofs.picking.Picking.start_at.Goals as goal

pub returns-in-Some-clause-told : goal.returns-in-Some-clause-told
returns-in-Some-clause-told g c =
    rw (c.requires.pattern) (told_then _ _ _ _ _ _ _ _ (rw (c.in-Some.is, c.requires.pattern) at c.in_ok-m.ensures.told) c.region_start.ensures.told)

use Rattle.item_pick.proofs.Common.{reverse, take}
use Rattle.item_pick.specs.Marks.{AreMarks}
use Rattle.item_pick.proofs.tried.marks_of.Given as goal

-- the items before are marked
abbrev pub invariant-loop-id : goal.invariant-loop-id
invariant-loop-id l = AreMarks l.marks.items (reverse (take l.id-index l.items))

use Rattle.std.proofs.Common.{◌≡◌, take}
use Rattle.std.specs.List.{flat_map}
use Rattle.conceal_view.specs.MarkTables.{numbers_at}
use Rattle.paint_marks.specs.Naming.{entry_with_marks}
use Rattle.conceal_view.proofs.marked_lists.marked_list.Given as goal

-- the entries up to here were put
abbrev pub invariant-loop-entry : goal.invariant-loop-entry
invariant-loop-entry l = l.entries ≡ flat_map (entry_with_marks (numbers_at l.marks)) (take l.entry-index l.entry-items)

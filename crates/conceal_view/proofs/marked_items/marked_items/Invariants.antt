use Rattle.std.proofs.Common.{◌≡◌, ◌++◌, drop}
use Rattle.conceal_view.specs.Marking.{marked_from}
use Rattle.conceal_view.specs.MarkTables.{numbers_at}
use Rattle.conceal_view.proofs.marked_items.marked_items.Given as goal

-- with those to come they are all
abbrev pub invariant-loop-place : goal.invariant-loop-place
invariant-loop-place l = l.marked ++ marked_from (numbers_at l.marks) l.number (drop l.place l.items) ≡ marked_from (numbers_at l.marks) 20000 l.items

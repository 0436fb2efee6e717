use Rattle.std.proofs.Common.{◌≡◌, ℕ, take}
use Rattle.conceal_view.specs.MarkTables.{numbers_at}
use Rattle.conceal_view.specs.Marking.{marks_by_group}
use Rattle.conceal_view.proofs.group_marks.GroupMarks.of.Given as goal

-- the marks up to here stand for their groups
abbrev pub invariant-loop-mark : goal.invariant-loop-mark
invariant-loop-mark l = (group : ℕ) → numbers_at l.table group ≡ marks_by_group (take l.mark-index l.marks) group

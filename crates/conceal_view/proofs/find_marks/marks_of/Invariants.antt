use Rattle.std.proofs.Common.{◌≡◌, ◌+◌, ◌++◌, drop, length}
use Rattle.conceal_view.specs.Marks.{marks_from, marks_of}
use Rattle.conceal_view.proofs.find_marks.marks_of.Given as goal

-- with those of the items to come they are all
abbrev pub invariant-loop-place : goal.invariant-loop-place
invariant-loop-place l = l.marks ++ marks_from (20000 + length l.marks) l.place (drop l.place l.items) ≡ marks_of l.items

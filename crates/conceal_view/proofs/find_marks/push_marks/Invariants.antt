use Rattle.std.proofs.Common.{◌≡◌, ◌+◌, ◌++◌, drop, length}
use Rattle.conceal_view.specs.Marks.{marks_for}
use Rattle.conceal_view.proofs.find_marks.push_marks.Given as goal

-- with those for the groups to come they are all
abbrev pub invariant-loop-group : goal.invariant-loop-group
invariant-loop-group l =
    l.marks ++ marks_for (20000 + length l.marks) l.item.0 (drop l.group-index l.groups)
    ≡ l.initial.marks ++ marks_for (20000 + length l.initial.marks) l.item.0 l.groups

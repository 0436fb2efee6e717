use Rattle.std.proofs.Common.{◌≡◌, ℕ, ◌+◌, ◌-◌, length}
use Rattle.conceal_view.specs.MarkTables.{numbers_at}
use Rattle.conceal_view.proofs.group_marks.GroupMarks.reach.Given as goal

-- rows without marks alone were put behind
abbrev pub invariant-loop-alloc : goal.invariant-loop-alloc
invariant-loop-alloc l = (g : ℕ) → numbers_at l.self-inside.numbers.items g ≡ numbers_at l.fn.self g

abbrev pub decreases-loop-alloc : goal.decreases-loop-alloc
decreases-loop-alloc l = l.group.0 + 1 - length l.self-inside.numbers.items

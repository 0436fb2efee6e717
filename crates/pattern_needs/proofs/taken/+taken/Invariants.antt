use Rattle.std.proofs.Common.{◌≡◌, ◌≤◌, ◌+◌, ◌*◌, ◌||◌, ℕ, true}
use Rattle.vim_pattern.specs.Shape.{bare}
use Rattle.vim_pattern.specs.Parted.{node_count}
use Rattle.pattern_needs.specs.Asking.{atoms_in}
use Rattle.pattern_needs.specs.Characters.{holds}
use Rattle.pattern_needs.specs.Needs.{needed, some_takes}
use Rattle.pattern_needs.proofs.taken.+taken.Given as goal

abbrev pub decreases-taken_by : goal.decreases-taken_by
decreases-taken_by l = 2 * node_count (bare l.part.now)

abbrev pub decreases-taken_either : goal.decreases-taken_either
decreases-taken_either l = 2 * node_count (bare l.node.now) + 1

abbrev pub decreases-taken_either-loop-rest : goal.decreases-taken_either-loop-rest
decreases-taken_either-loop-rest l = node_count (bare l.rest)

-- what is taken of the whole is known, or is taken of the rest
abbrev pub invariant-taken_either-loop-rest : goal.invariant-taken_either-loop-rest
invariant-taken_either-loop-rest l = record {
  kept : (c : ℕ) → holds l.fn.some c ≡ true → holds l.known c ≡ true;
  taken : (c : ℕ) → some_takes l.by.sets.now l.by.ignore (atoms_in (needed (bare l.fn.node))) c ≡ true →
      (holds l.known c || some_takes l.by.sets.now l.by.ignore (atoms_in (needed (bare l.rest))) c) ≡ true;
  within : node_count (bare l.rest) ≤ node_count (bare l.fn.node);
}

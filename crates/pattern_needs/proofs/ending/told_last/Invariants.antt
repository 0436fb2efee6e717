use Rattle.std.proofs.Common.{◌≡◌, ◌+◌, ℕ, true}
use Rattle.vim_pattern.specs.Shape.{bare}
use Rattle.vim_pattern.specs.Parted.{node_count}
use Rattle.pattern_needs.specs.Characters.{holds}
use Rattle.pattern_needs.specs.Fronts.{piece, stopped}
use Rattle.pattern_needs.specs.declared.characters.Characters.{Characters}
use Rattle.pattern_needs.proofs.EndingLaws.{LeavesFrom}
use Rattle.pattern_needs.proofs.ending.told_last.Given as goal

abbrev pub decreases-loop-rest : goal.decreases-loop-rest
decreases-loop-rest l = node_count (bare l.rest)

-- the pieces of the rest are the further ones, and where the first of them leave a line from what is known,
-- there as many pieces more of the whole do
abbrev pub invariant-loop-rest : goal.invariant-loop-rest
invariant-loop-rest l = record {
  begins : (c : ℕ) → holds l.initial.characters c ≡ true;
  further : (j : ℕ) → piece (bare l.node) (l.number + j) ≡ piece (bare l.rest) j;
  leaves : (r : Characters) (k n : ℕ) → n ≡ l.number + k → LeavesFrom l.by.sets.now l.by.ignore (stopped (bare l.rest) k) l.characters r →
      LeavesFrom l.by.sets.now l.by.ignore (stopped (bare l.node) n) l.initial.characters r;
}

use Rattle.std.proofs.Common.{◌≡◌, ◌+◌, ℕ}
use Rattle.vim_pattern.specs.Shape.{bare}
use Rattle.vim_pattern.specs.Parted.{node_count}
use Rattle.pattern_needs.specs.Fronts.{piece, piece_upto}
use Rattle.pattern_needs.proofs.piece.telling_front.Given as goal

abbrev pub decreases-loop-rest : goal.decreases-loop-rest
decreases-loop-rest l = node_count (bare l.rest)

-- the pieces of the rest are the further ones, and the best so far is one of the pieces
abbrev pub invariant-loop-rest : goal.invariant-loop-rest
invariant-loop-rest l = record {
  further : (j : ℕ) → piece (bare l.fn.node) (l.number + j) ≡ piece (bare l.rest) j;
  best : bare l.best.part.now ≡ piece_upto l.best.upto (bare l.fn.node);
}

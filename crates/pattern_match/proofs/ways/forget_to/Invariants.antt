use Rattle.std.proofs.Common.{◌≡◌, length}
use Rattle.std.specs.Prelude.{reverse}
use Rattle.pattern_match.specs.Ways.{kept_to}
use Rattle.pattern_match.proofs.ways.forget_to.Given as goal

-- the entries before are gone
abbrev pub invariant-loop-pending : goal.invariant-loop-pending
invariant-loop-pending l = kept_to l.count (reverse l.pending.items) ≡ kept_to l.count (reverse l.fn.pending.items)

abbrev pub decreases-loop-pending : goal.decreases-loop-pending
decreases-loop-pending l = length l.pending.items

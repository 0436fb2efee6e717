use Rattle.std.proofs.Common.{ℕ, ◌<◌}
use Rattle.slots.specs.Entries.{IsMarked}
use Rattle.region_ends.proofs.searching.mark_between.Given as goal

-- the columns up to here are marked
abbrev pub invariant-loop-col : goal.invariant-loop-col
invariant-loop-col l = record {
  between : (d : ℕ) → l.from < d → d < l.col → IsMarked l.jumped d;
  before : (d : ℕ) → IsMarked l.fn.jumped d → IsMarked l.jumped d;
}

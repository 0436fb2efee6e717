use Rattle.std.proofs.Common.{◌<◌, ◌≤◌, ◌-◌, length}
use Rattle.std.specs.Prelude.{slice_index}
use Rattle.chunk_list.specs.Flat.{start_in}
use Rattle.chunk_list.proofs.ends.search.Given as goal

-- the chunk lies between the two
abbrev pub invariant-loop-low : goal.invariant-loop-low
invariant-loop-low l = record {
  ordered : l.low ≤ l.high;
  inside : l.high < length l.ends;
  from : start_in l.ends l.low ≤ l.at;
  to : l.at < slice_index l.ends l.high;
}

abbrev pub decreases-loop-low : goal.decreases-loop-low
decreases-loop-low l = l.high - l.low

use Rattle.std.proofs.Common.{◌≡◌, ◌≤◌, length}
use Rattle.pattern_match.specs.Ways.{found_way}
use Rattle.pattern_match.proofs.NoteLaws.{noted_from, on_top_of, HasNine}
use Rattle.pattern_match.proofs.ways.Ways.way.Given as goal

-- the notes above `at` were taken
abbrev pub invariant-loop-at : goal.invariant-loop-at
invariant-loop-at g l = record {
  within : l.at ≤ length l.self-inside.notes.items;
  nine : HasNine (found_way l.way);
  all : on_top_of (found_way l.way) (noted_from l.self-inside.notes.items l.at) ≡ l.self.here.way;
}

abbrev pub decreases-loop-at : goal.decreases-loop-at
decreases-loop-at g l = l.at

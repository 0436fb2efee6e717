use Rattle.std.proofs.Common.{◌≡◌, drop}
use Rattle.syn_base.specs.declared.places.Place.{Place}
use Rattle.match_rules.specs.Ways.{way_from}
use Rattle.pattern_match.specs.Ways.{found_way, way_noted, with_all}
use Rattle.pattern_match.proofs.NoteLaws.{on_top_of, HasNine}
use Rattle.pattern_match.proofs.ways.way_with.Given as goal

-- the notes before were taken
abbrev pub invariant-loop-note : goal.invariant-loop-note
invariant-loop-note l = record {
  nine : HasNine (found_way l.way);
  all : (p : Place) → on_top_of (found_way l.way) (with_all (drop l.note-index l.notes) (way_from p)) ≡ way_noted (way_from p) l.notes l.fn.at;
}

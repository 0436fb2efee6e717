use Rattle.std.proofs.Common.{◌≡◌, ◌<◌, ◌^◌, length}
use Rattle.pattern_items.specs.Place.{stops}
use Rattle.pattern_items.specs.Vain.{Known}
use Rattle.pattern_items.proofs.place.stops.Given as goal

abbrev pub invariant-loop-rest : goal.invariant-loop-rest
invariant-loop-rest l = record {
  same : stops 0 l.level l.rest ≡ stops 0 l.fn.level l.text;
  few : length l.rest < 2 ^ 61;
  known : Known l.in_vain l.rest;
}

abbrev pub decreases-loop-rest : goal.decreases-loop-rest
decreases-loop-rest l = length l.rest

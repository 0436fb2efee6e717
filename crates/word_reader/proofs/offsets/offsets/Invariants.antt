use Rattle.std.proofs.Common.{◌≡◌, length}
use Rattle.word_reader.specs.Offsets.{offsets, offsets_after}
use Rattle.word_reader.specs.Vain.{Keeps}
use Rattle.word_reader.proofs.offsets.offsets.Given as goal

-- the offsets so far, with those from here on, are all
abbrev pub invariant-loop-fewer : goal.invariant-loop-fewer
invariant-loop-fewer l = record {
  same : offsets_after l.adjusts l.turns l.rest ≡ offsets l.text;
  keeps : Keeps l.text l.rest;
}

abbrev pub decreases-loop-fewer : goal.decreases-loop-fewer
decreases-loop-fewer l = length l.turns

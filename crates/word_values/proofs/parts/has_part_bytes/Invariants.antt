use Rattle.std.proofs.Common.{◌≡◌, length}
use Rattle.word_values.specs.Parts.{part_from, has_part}
use Rattle.word_values.proofs.parts.has_part_bytes.Given as goal

abbrev pub invariant-loop-c : goal.invariant-loop-c
invariant-loop-c l = part_from l.begins_here l.separator l.part l.rest ≡ has_part l.separator l.part l.word

abbrev pub decreases-loop-c : goal.decreases-loop-c
decreases-loop-c l = length l.rest

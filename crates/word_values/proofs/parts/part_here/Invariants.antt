use Rattle.std.proofs.Common.{◌≡◌, length}
use Rattle.word_values.specs.Parts.{part_here}
use Rattle.word_values.proofs.parts.part_here.Given as goal

abbrev pub invariant-loop-w : goal.invariant-loop-w
invariant-loop-w l = part_here l.separator l.left l.rest ≡ part_here l.separator l.part l.text

abbrev pub decreases-loop-w : goal.decreases-loop-w
decreases-loop-w l = length l.left

use Rattle.std.proofs.Common.{◌≡◌, length}
use Rattle.text_scan.specs.Characters.{past_blanks}
use Rattle.text_scan.proofs.past_blanks.Given as goal

abbrev pub invariant-loop-c : goal.invariant-loop-c
invariant-loop-c l = past_blanks l.rest ≡ past_blanks l.text

abbrev pub decreases-loop-c : goal.decreases-loop-c
decreases-loop-c l = length l.rest

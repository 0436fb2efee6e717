use Rattle.std.proofs.Common.{◌≡◌, length}
use Rattle.word_reader.specs.Words.{past}
use Rattle.word_reader.proofs.words.past.Given as goal

abbrev pub invariant-loop-c : goal.invariant-loop-c
invariant-loop-c l = past l.until l.rest ≡ past l.until l.text

abbrev pub decreases-loop-c : goal.decreases-loop-c
decreases-loop-c l = length l.rest

use Rattle.std.proofs.Common.{◌≡◌, length}
use Rattle.word_reader.specs.Words.{abbreviates}
use Rattle.word_reader.proofs.words.abbreviates_bytes.Given as goal

abbrev pub invariant-loop-c : goal.invariant-loop-c
invariant-loop-c l = abbreviates l.least l.full l.rest ≡ abbreviates l.fn.least l.fn.full l.text

abbrev pub decreases-loop-c : goal.decreases-loop-c
decreases-loop-c l = length l.rest

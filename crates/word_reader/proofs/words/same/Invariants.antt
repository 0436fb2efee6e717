use Rattle.std.proofs.Common.{◌≡◌, length}
use Rattle.word_reader.specs.Words.{same}
use Rattle.word_reader.proofs.words.same.Given as goal

abbrev pub invariant-loop-d : goal.invariant-loop-d
invariant-loop-d l = same l.ignore l.rest l.left ≡ same l.ignore l.text l.word

abbrev pub decreases-loop-d : goal.decreases-loop-d
decreases-loop-d l = length l.left

use Rattle.std.proofs.Common.{◌≡◌, length}
use Rattle.word_reader.specs.Vain.{Keeps}
use Rattle.word_reader.specs.Words.{strip}
use Rattle.word_reader.proofs.words.strip_bytes.Given as goal

abbrev pub invariant-loop-w : goal.invariant-loop-w
invariant-loop-w l = record {
  same : strip l.left l.rest ≡ strip l.word l.text;
  keeps : Keeps l.text l.rest;
}

abbrev pub decreases-loop-w : goal.decreases-loop-w
decreases-loop-w l = length l.left

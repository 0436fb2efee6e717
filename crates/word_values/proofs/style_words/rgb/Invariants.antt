use Rattle.std.proofs.Common.{◌≡◌, ◌≤◌, length}
use Rattle.word_values.specs.StyleWords.{hex_after, rgb}
use Rattle.word_values.proofs.style_words.rgb.Given as goal

-- the digits so far, with those to come, are the number
abbrev pub invariant-loop-c : goal.invariant-loop-c
invariant-loop-c l = record {
  same : hex_after l.n l.rest ≡ rgb l.digits;
  small : l.n ≤ 16777215;
}

abbrev pub decreases-loop-c : goal.decreases-loop-c
decreases-loop-c l = length l.rest

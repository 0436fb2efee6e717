use Rattle.std.proofs.Common.{◌≡◌, length}
use Rattle.word_reader.specs.Delimited.{delimited, delimited_after}
use Rattle.pattern_items.specs.Vain.{Known}
use Rattle.word_reader.proofs.delimited.delimited.Given as goal

-- the characters so far, with those from here on, are the pattern
abbrev pub invariant-loop-c : goal.invariant-loop-c
invariant-loop-c l = record {
  same : delimited_after l.delimiter l.search.scan l.pattern l.rest ≡ delimited l.delimiter l.text;
  known : Known l.search.in_vain l.rest;
}

abbrev pub decreases-loop-c : goal.decreases-loop-c
decreases-loop-c l = length l.rest

use Rattle.std.proofs.Common.{◌≡◌, ◌+◌, ◌≤◌, drop, length}
use Rattle.word_reader.specs.Words.{run}
use Rattle.word_reader.proofs.words.run_length.Given as goal

-- what was counted, and what is left of the run
abbrev pub invariant-loop-c : goal.invariant-loop-c
invariant-loop-c l = record {
  counted : l.count + length (run l.until (drop l.c-index l.text)) ≡ length (run l.until l.text);
  within : l.count ≤ l.c-index;
}

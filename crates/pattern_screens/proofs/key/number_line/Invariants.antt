use Rattle.std.proofs.Common.{◌≡◌, ◌+◌, ◌≤◌, length, vec_capacity, vec_len}
use Rattle.pattern_screens.proofs.Common.{AreNumbers, last_in}
use Rattle.pattern_screens.proofs.key.number_line.Given as goal

-- the columns before have their numbers
abbrev pub invariant-loop-col : goal.invariant-loop-col
invariant-loop-col l = record {
  last : l.last ≡ last_in l.sets l.line l.col;
  numbers : AreNumbers l.sets l.line l.col l.numbers.items;
  count : vec_len l.numbers ≡ l.col;
  room : length l.line + 1 ≤ vec_capacity l.numbers;
}

use Rattle.std.proofs.Common.{◌≡◌, ◌<◌, ◌+◌, true, length}
use Rattle.ex_substitute.specs.Strings.{string_after, string_of}
use Rattle.ex_substitute.proofs.string.read_string.Given as goal

-- the pieces so far, with those from here on, are all
abbrev pub invariant-loop-c : goal.invariant-loop-c
invariant-loop-c l = record {
  all : string_after l.pieces l.escaped l.at l.rest ≡ string_of l.text;
  place : l.at + length l.rest ≡ length l.text;
  behind : l.escaped ≡ true → 0 < l.at;
}

abbrev pub decreases-loop-c : goal.decreases-loop-c
decreases-loop-c l = length l.rest

use Rattle.std.proofs.Common.{◌≡◌, ◌<◌, ◌≤◌, true, length, take}
use Rattle.std.specs.Prelude.{All, IsTrue}
use Rattle.pattern_screens.specs.PlainAtoms.{is_plain, plain_takes}
use Rattle.pattern_match.specs.Steps.{atom_of}
use Rattle.pattern_match.proofs.runs.characters_taken.Given as goal

-- the characters so far are taken
abbrev pub invariant-loop-c : goal.invariant-loop-c
invariant-loop-c l = record {
  each : l.count ≡ l.c-index;
  within : l.count ≤ length l.characters;
  plain : 0 < l.count → is_plain (atom_of l.test) ≡ true;
  taken : All (λ c. IsTrue (plain_takes l.sets l.ignore (atom_of l.test) c)) (take l.count l.characters);
}

use Rattle.std.proofs.Common.{◌≡◌, ◌<◌, ◌≤◌, ℕ, true}
use Rattle.pattern_screens.specs.PlainAtoms.{plain_takes}
use Rattle.pattern_needs.specs.Characters.{holds}
use Rattle.pattern_needs.proofs.nonblanks.codes_of.Given as goal

-- the characters below `code` that the atom takes are in, and all others from 256 on
abbrev pub invariant-loop-code : goal.invariant-loop-code
invariant-loop-code l = record {
  low : (c : ℕ) → c < l.code → plain_takes l.by.sets.now l.by.ignore l.atom c ≡ true → holds l.codes c ≡ true;
  high : (c : ℕ) → 256 ≤ c → holds l.codes c ≡ true;
}

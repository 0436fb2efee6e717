use Rattle.std.proofs.Common.{◌≡◌, drop}
use Rattle.std.specs.List.{list_any}
use Rattle.pattern_needs.specs.Needs.{some_takes}
use Rattle.pattern_needs.proofs.needs.Needs.some_taken.Given as goal

-- the characters before aren't taken
abbrev pub invariant-loop-c : goal.invariant-loop-c
invariant-loop-c l =
    list_any (some_takes l.self.sets l.self.ignore l.self.atoms) (drop l.c-index l.characters)
    ≡ list_any (some_takes l.self.sets l.self.ignore l.self.atoms) l.characters

use Rattle.std.proofs.Common.{◌≡◌, drop}
use Rattle.pattern_match.specs.ReadyParts.{some_optional_holds}
use Rattle.pattern_match.proofs.tables.some_optional_has.Given as goal

-- the parts before are none of these
abbrev pub invariant-loop-part : goal.invariant-loop-part
invariant-loop-part l = some_optional_holds (drop l.part-index l.parts) l.c l.sets l.ignore ≡ some_optional_holds l.parts l.c l.sets l.ignore

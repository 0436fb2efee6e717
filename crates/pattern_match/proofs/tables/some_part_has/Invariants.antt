use Rattle.std.proofs.Common.{◌≡◌, drop}
use Rattle.pattern_match.specs.ReadyParts.{some_part_holds}
use Rattle.pattern_match.proofs.tables.some_part_has.Given as goal

-- the parts before are none of these
abbrev pub invariant-loop-part : goal.invariant-loop-part
invariant-loop-part l = some_part_holds (drop l.part-index l.parts) l.c l.sets l.ignore ≡ some_part_holds l.parts l.c l.sets l.ignore

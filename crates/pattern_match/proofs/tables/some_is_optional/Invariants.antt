use Rattle.std.proofs.Common.{◌≡◌, drop}
use Rattle.std.specs.List.{list_any}
use Rattle.pattern_match.specs.ReadyParts.{is_optional}
use Rattle.pattern_match.proofs.tables.some_is_optional.Given as goal

-- the parts before are none of these
abbrev pub invariant-loop-part : goal.invariant-loop-part
invariant-loop-part l = list_any is_optional (drop l.part-index l.parts) ≡ list_any is_optional l.parts

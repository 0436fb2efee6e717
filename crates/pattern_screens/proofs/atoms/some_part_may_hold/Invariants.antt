use Rattle.pattern_screens.proofs.Common.{◌≡◌, drop, list_any, part_may_hold}
use Rattle.pattern_screens.proofs.atoms.some_part_may_hold.Given as goal

-- the parts before are none of these
abbrev pub invariant-loop-part : goal.invariant-loop-part
invariant-loop-part l =
    list_any (part_may_hold l.keyword l.ignore) (drop l.part-index l.parts) ≡ list_any (part_may_hold l.keyword l.ignore) l.parts

use Rattle.pattern_screens.proofs.Common.{◌≡◌, drop, list_any, part_holds}
use Rattle.pattern_screens.proofs.atoms.some_part_has.Given as goal

-- the parts before are none of these
abbrev pub invariant-loop-part : goal.invariant-loop-part
invariant-loop-part l =
    list_any (λ part. part_holds part l.c l.by.sets.now l.by.ignore) (drop l.part-index l.parts) ≡ list_any (λ part. part_holds part l.c l.by.sets.now l.by.ignore) l.parts

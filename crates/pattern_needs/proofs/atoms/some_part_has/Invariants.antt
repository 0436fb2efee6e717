use Rattle.std.proofs.Common.{◌≡◌, drop}
use Rattle.std.specs.List.{list_any}
use Rattle.match_rules.specs.Collections.{part_holds}
use Rattle.pattern_needs.proofs.atoms.some_part_has.Given as goal

abbrev pub invariant-loop-part : goal.invariant-loop-part
invariant-loop-part l =
    list_any (λ part. part_holds part l.c l.by.sets.now l.by.ignore) (drop l.part-index l.parts)
    ≡ list_any (λ part. part_holds part l.c l.by.sets.now l.by.ignore) l.parts

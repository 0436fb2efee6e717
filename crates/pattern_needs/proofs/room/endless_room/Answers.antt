use Rattle.std.proofs.Common.{◌∙◌, refl, ap, arith}
use Rattle.std.specs.Prelude.{nat_eq}
use Rattle.std.proofs.lemmas.Bool.Decides.{nat_tests}
use Rattle.pattern_needs.specs.Growths.{grown, once}
use Rattle.pattern_needs.specs.declared.growth.Growth.{Growth}
use Rattle.pattern_needs.proofs.GrowthLaws.{if-other, if-zero, unlimited-total}
use Rattle.pattern_needs.proofs.room.endless_room.Goals as goal
use Rattle.pattern_needs.proofs.room.endless_room.Goals.{then-least-eq0, else-least-eq0}

pub returns : goal.returns
returns c =
    unlimited-total c.args.a (record { ways = c.each.result; cost = c.in_ok-and_each.field-0 }) c.args.least (c.if-not-is_one.ensures refl) c.each.ensures c.if-least-eq0.vain.by
    (λ left. elim c.if-least-eq0.branch [
      | then-least-eq0 w ↦ ap (λ (g : Growth). grown g.by once left) w.vain-is ∙ w.none-vain.ensures once left ∙ if-zero (nat_eq c.args.least 0) (grown c.args.a.cost.by once left) (grind (arith, nat_tests, w.if-least-eq0.true))
      | else-least-eq0 w ↦ ap (λ (g : Growth). grown g.by once left) w.vain-is ∙ if-other (nat_eq c.args.least 0) (grown c.args.a.cost.by once left) (grind (arith, nat_tests, w.if-least-eq0.false))
    ])
    (λ left. omega (arith, c.in_ok-and_each.ensures once left, c.each-2.ensures (grown c.args.a.cost.by once) left))

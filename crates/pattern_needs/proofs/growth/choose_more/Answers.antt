use Rattle.std.proofs.Common.{◌≡◌, ℕ, IfSome, arith, subst}
use Rattle.std.specs.Prelude.{Option}
use Rattle.pattern_needs.specs.Growths.{chosen}
use Rattle.pattern_needs.proofs.GrowthLaws.{chosen-next}
use Rattle.pattern_needs.proofs.growth.choose_more.Goals as goal

pub returns : goal.returns
returns c h =
    let known = subst (λ (o : Option ℕ). IfSome o (λ (n : ℕ). n ≡ chosen c.args.k c.args.left)) c.in_ok-known.was h in
    chosen-next c.args.k c.args.left c.in_ok-known.field-0 c.saturating_sub.result c.in_ok-more.more c.in_ok-checked_add.field-0 known
    (omega (arith, c.saturating_sub.ensures)) (omega (arith, c.in_ok-more.ensures)) (omega (arith, c.in_ok-checked_add.ensures))

use Rattle.item_pick.proofs.Common.{◌≡◌, ◌∙◌, sym, subst, below_more, arith, true, get_or_from_slice_get, slice_get_within, Pattern, is_screened}
use Rattle.item_pick.proofs.asked.Asked.are_screened.Goals as goal

pub loop-pattern-preserved : goal.loop-pattern-preserved
loop-pattern-preserved c =
    below_more _ _ c.loop-pattern.invariant
    (λ p e.
    subst (λ (q : Pattern). is_screened c.args.self.now.parts.now.sets.now c.args.self.now.budget c.args.ignore c.args.number q ≡ true)
    (c.pattern-item.is ∙ get_or_from_slice_get c.args.patterns.now c.loop-pattern.pattern-index p c.pattern-item.result (sym e))
    (c.is_screened.ensures c.if-not-is_screened.false))

pub returns : goal.returns
returns c _ n p e = c.loop-pattern.invariant n (omega (arith, slice_get_within c.args.patterns.now n p (sym e))) p e

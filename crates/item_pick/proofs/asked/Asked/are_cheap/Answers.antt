use Rattle.item_pick.proofs.Common.{◌≡◌, ◌∙◌, sym, subst, below_more, arith, true, get_or_from_slice_get, slice_get_within, Pattern}
use Rattle.item_pick.specs.Tables.{is_cheap}
use Rattle.item_pick.proofs.asked.Asked.are_cheap.Goals as goal

pub loop-pattern-preserved : goal.loop-pattern-preserved
loop-pattern-preserved c =
    below_more _ _ c.loop-pattern.invariant
    (λ p e.
    subst (λ (q : Pattern). is_cheap c.args.self.now.budget q ≡ true)
    (c.pattern-item.is ∙ get_or_from_slice_get c.args.patterns.now c.loop-pattern.pattern-index p c.pattern-item.result (sym e))
    (c.is_cheap.ensures c.if-not-is_cheap.false))

pub returns : goal.returns
returns c _ n p e = c.loop-pattern.invariant n (omega (arith, slice_get_within c.args.patterns.now n p (sym e))) p e

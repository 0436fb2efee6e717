use Rattle.item_pick.proofs.Common.{◌∙◌, arith, below_more, subst, sym, get_or_from_slice_get, slice_get_within, Pattern, IsLineNeedOf}
use Rattle.item_pick.proofs.asked.Asked.need_of_any.Goals as goal

pub loop-pattern-preserved : goal.loop-pattern-preserved
loop-pattern-preserved c =
    let sets = c.args.self.now.parts.now.sets.now in
    let budget = c.args.self.now.budget in
    below_more _ _ (λ n before p e. c.either-need.ensures.first sets c.args.ignore budget p.tree (c.loop-pattern.invariant n before p e))
    (λ p e.
    subst (λ (q : Pattern). IsLineNeedOf sets c.args.ignore budget q.tree c.either-need.result)
    (c.pattern-item.is ∙ get_or_from_slice_get c.args.patterns.now c.loop-pattern.pattern-index p c.pattern-item.result (sym e))
    (c.either-need.ensures.second sets c.args.ignore budget c.pattern-item.result.tree c.in_ok-need_by.ensures))

pub returns : goal.returns
returns c n p e = c.loop-pattern.invariant n (omega (arith, slice_get_within c.args.patterns.now n p (sym e))) p e

use Rattle.line_paint.proofs.Common.{◌∙◌, ap, reverse, Bool, None, Some, looked_first, item_of, below_if}
use Rattle.line_paint.proofs.SearchLaws.{start_then}
use Rattle.line_paint.proofs.line_start.+line_start.Goals as goal

pub returns-then-not-goes_on-clause-comes : goal.returns-then-not-goes_on-clause-comes
returns-then-not-goes_on-clause-comes g t c =
    let h = g.S.Site.here c.args.site.now in
    let below = reverse c.in-Some.below.now in
    start_then h c.in-Some.top.now below c.item.result.now
    (c.item.ensures ∙ ap (λ f. item_of h.rules.items f.item) c.top.view_is) c.args.is_top
    c.goes_on.result (reverse c.args.stack.now) None c.top_searched.result _ _ _
    c.in-Some.ensures.0 c.goes_on.ensures
    (ap (λ (b : Bool). looked_first (Some c.args.looked.now) (below_if h b below))
    c.if-not-goes_on.true) c.top_searched.ensures.comes

pub returns-in_ok-rest-in-Some-clause-comes : goal.returns-in_ok-rest-in-Some-clause-comes
returns-in_ok-rest-in-Some-clause-comes g t c =
    let h = g.S.Site.here c.args.site.now in
    let below = reverse c.in-Some.below.now in
    start_then h c.in-Some.top.now below c.item.result.now
    (c.item.ensures ∙ ap (λ f. item_of h.rules.items f.item) c.top.view_is) c.args.is_top
    c.goes_on.result (reverse c.args.stack.now) c.in_ok-rest-in-Some.rest c.top_searched-in-Some.result
    _ _ _ c.in-Some.ensures.0 c.goes_on.ensures
    (ap (λ (b : Bool). looked_first (Some c.args.looked.now) (below_if h b below))
    c.if-not-goes_on.false ∙ c.in_ok-rest-in-Some.ensures.comes.0)
    c.top_searched-in-Some.ensures.comes

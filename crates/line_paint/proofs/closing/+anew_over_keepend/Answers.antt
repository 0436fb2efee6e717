use Rattle.line_paint.proofs.Common.{◌∙◌, ap, subst, reverse, sym, Ok, item_of, anew_if, AnewComes}
use Rattle.line_paint.specs.declared.closing.Anew.{Anew}
use Rattle.line_paint.proofs.SearchLaws.{anew_over, anew_stays}
use Rattle.line_paint.proofs.closing.+anew_over_keepend.Goals as goal

pub returns-then-not-over-clause-comes : goal.returns-then-not-over-clause-comes
returns-then-not-over-clause-comes g t c =
    let h = g.S.Site.here c.args.site.now in
    let fs = reverse c.args.stack.now in
    let k = c.anew_over_keepend.new.looked in
    subst (λ (a : Anew). AnewComes fs (Ok a) c.args.looked.now k (anew_if h c.args.c c.args.wanted fs))
    (sym c.untouched-then-not-over.ensures)
    (anew_stays h c.in-Some.top.now (reverse c.in-Some.below.now) c.item.result.now
    (c.item.ensures ∙ ap (λ f. item_of h.rules.items f.item) c.top.view_is) c.args.c fs c.in_ok-rest-in-Some.rest
    c.args.wanted c.keeps_or-over.result c.args.looked.now k c.in-Some.ensures.0 c.if-not-wanted.false
    c.keeps_or-over.ensures c.in_ok-rest-in-Some.ensures.comes.0 c.if-not-over.true c.in_ok-rest-in-Some.ensures.stay)

pub returns-in_ok-frames-in-Some-clause-comes : goal.returns-in_ok-frames-in-Some-clause-comes
returns-in_ok-frames-in-Some-clause-comes g t c =
    let h = g.S.Site.here c.args.site.now in
    anew_over h c.in-Some.top.now (reverse c.in-Some.below.now) c.item.result.now
    (c.item.ensures ∙ ap (λ f. item_of h.rules.items f.item) c.top.view_is) c.args.c (reverse c.args.stack.now)
    c.in_ok-rest-in-Some.rest c.args.wanted c.keeps_or-over.result c.args.looked.now c.anew_over_keepend.new.looked
    c.in-Some.ensures.0 c.if-not-wanted.false c.keeps_or-over.ensures c.in_ok-rest-in-Some.ensures.comes.0
    c.top_searched.new.looked c.in_ok-frames-in-Some.frames c.if-not-over.false c.in_ok-frames-in-Some.ensures.comes

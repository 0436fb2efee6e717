use Rattle.line_paint.proofs.Common.{◌∙◌, ap, refl, reverse, item_of, None, false}
use Rattle.line_paint.proofs.SearchLaws.{after_exposed, after_over, none_wanted}
use Rattle.line_paint.proofs.closing.frames_after.Goals as goal

pub returns-then-not-wanted-clause-comes : goal.returns-then-not-wanted-clause-comes
returns-then-not-wanted-clause-comes g c =
    let h = g.S.Site.here c.args.site.now in
    let below = reverse c.args.below.now in
    let j = c.args.looked.now in
    after_exposed h c.args.c c.args.popped.now below c.item.result.now c.may_search-wanted.result j j
    (record { frames = None; over = false })
    (c.item.ensures ∙ ap (λ f. item_of h.rules.items f.item) c.popped.view_is)
    (c.may_search-wanted.ensures.after_pop c.args.c)
    (none_wanted h c.args.c below c.may_search-wanted.result j c.if-not-wanted.true) c.top_searched.result
    c.top_searched.new.looked refl refl c.top_searched.ensures.comes

pub returns-then-anew-clause-comes : goal.returns-then-anew-clause-comes
returns-then-anew-clause-comes g c =
    let h = g.S.Site.here c.args.site.now in
    after_over h c.args.c c.args.popped.now (reverse c.args.below.now) c.item.result.now c.may_search-wanted.result
    c.args.looked.now c.anew_over_keepend.new.looked c.in_ok-anew.anew
    (c.item.ensures ∙ ap (λ f. item_of h.rules.items f.item) c.popped.view_is)
    (c.may_search-wanted.ensures.after_pop c.args.c) c.in_ok-anew.ensures.comes c.if-anew.true

pub returns-clause-comes : goal.returns-clause-comes
returns-clause-comes g c =
    let h = g.S.Site.here c.args.site.now in
    after_exposed h c.args.c c.args.popped.now (reverse c.args.below.now) c.item.result.now c.may_search-wanted.result
    c.args.looked.now c.anew_over_keepend.new.looked c.in_ok-anew.anew
    (c.item.ensures ∙ ap (λ f. item_of h.rules.items f.item) c.popped.view_is)
    (c.may_search-wanted.ensures.after_pop c.args.c) c.in_ok-anew.ensures.comes c.top_searched-2.result
    c.top_searched-2.new.looked c.if-anew.false (c.in_ok-anew.ensures.stay c.if-anew.false) c.top_searched-2.ensures.comes

use Rattle.line_paint.proofs.Common.{◌≡◌, ◌<◌, ap, length, subst, sym, ItemId}
use Rattle.line_paint.proofs.standing.Standing.start_region.Goals as goal

pub returns-in_ok-body-in-Some-clause-stands : goal.returns-in_ok-body-in-Some-clause-stands
returns-in_ok-body-in-Some-clause-stands g c =
    let opened = ap (λ f. f.item) c.in_ok-open.ensures in
    let view = ap (λ f. f.item) c.open.view_is in
    let full = ap (λ f. f.item) c.with_externals-body-in-Some.ensures in
    let body : c.in_ok-body-in-Some.body.item ≡ c.args.region.item =
    cc (c.in_ok-body-in-Some.ensures.item, opened, view, full) in
    let area-view = ap (λ f. f.item) c.area.view_is in
    let area-open = ap (λ f. f.item) c.in_ok-area-in-Some.ensures in
    let area-full = ap (λ f. f.item) c.with_externals.ensures in
    let area : c.with_externals.result.item ≡ c.args.region.item = cc (area-view, area-open, area-full) in
    let h = g.S.Site.here c.args.site.now in
    let P : ItemId → Type 0 = λ i. i.0 < length h.rules.items in
    c.start_two.ensures.stands h (subst P (sym body) c.requires.is_item)
    (subst P (sym area) c.requires.is_item) c.requires.stands

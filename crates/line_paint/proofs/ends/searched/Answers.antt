use Rattle.line_paint.proofs.Common.{◌∙◌, ap, subst, Frame, Painted, Cause, searched_from, FrameComes}
use Rattle.line_paint.proofs.SearchLaws.{searched_is}
use Rattle.line_paint.proofs.ends.searched.Goals as goal

pub returns-clause-comes : goal.returns-clause-comes
returns-clause-comes g c =
    let h = g.S.Site.here c.args.site.now in
    let f = c.args.frame.now in
    subst (λ (p : Painted Cause Frame). FrameComes (λ b. b.value) f c.searched_from.result c.args.looked.now
    c.searched_from.new.looked p)
    (ap (λ from. searched_from h f from) c.search_column-from.ensures ∙ searched_is h f c.args.on)
    c.searched_from.ensures.comes

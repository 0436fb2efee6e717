use Rattle.std.proofs.Common.{◌≡◌, ◌∙◌, ◌+◌, ◌-◌, ap, arith, sym}
use Rattle.hi_links.specs.declared.highlight.Highlight.{Highlight}
use Rattle.hi_links.specs.FinalGroup.{followed}
use Rattle.hi_links.proofs.FollowLaws.{all_followed, end_followed, next_followed, none_followed}
use Rattle.hi_links.proofs.links.Links.final_group.Goals as goal

pub links-init : goal.links-init
links-init c = none_followed c.args.self.now c.args.g

pub returns-in-None : goal.returns-in-None
returns-in-None c =
    sym (end_followed (100 - c.links._followed) c.args.self.now c.links.shown
    (sym (ap (λ (h : Highlight). h.link) c.highlight.ensures) ∙ c.in-None.is))
    ∙ c.links.invariant

pub links-preserved : goal.links-preserved
links-preserved c =
    sym (next_followed (100 - c.links._followed) (100 - (c.links._followed + 1)) c.args.self.now c.links.shown c.in-Some.next
    (omega arith)
    (sym (ap (λ (h : Highlight). h.link) c.highlight.ensures) ∙ c.in-Some.is))
    ∙ c.links.invariant

pub returns : goal.returns
returns c =
    let done : 100 - c.links._followed ≡ 0 = omega arith in
    sym (all_followed c.args.self.now c.links.shown)
    ∙ ap (λ most. followed most c.args.self.now c.links.shown) (sym done)
    ∙ c.links.invariant

use Rattle.line_paint.proofs.Common.{◌∙◌, ap, arith, List, length, reverse, subst, Frame, Fits, items_of}
use Rattle.line_paint.proofs.SearchLaws.{fits_same}
use Rattle.line_paint.proofs.standing.Standing.closes_so.Goals as goal

pub returns-in_ok-stack-in-LeavesArea-clause-stands : goal.returns-in_ok-stack-in-LeavesArea-clause-stands
returns-in_ok-stack-in-LeavesArea-clause-stands g c =
    let n = length (g.S.Site.here c.args.site.now).rules.items in
    let P : List Frame → Type 0 = λ fs. Fits n fs in (
      fits_same n (reverse c.in-Some.below.now) _
          (ap (λ (fs : List Frame). items_of fs) c.in_ok-stack-in-LeavesArea.ensures
          ∙ c.in_ok-anew-in-LeavesArea.ensures.comes.1)
          (subst P c.in-Some.ensures.0 c.requires.stands.0).1,
      tt,
      omega arith,
    )

pub returns-in_ok-stack-in-Leaves-clause-stands : goal.returns-in_ok-stack-in-Leaves-clause-stands
returns-in_ok-stack-in-Leaves-clause-stands g c =
    let n = length (g.S.Site.here c.args.site.now).rules.items in
    let P : List Frame → Type 0 = λ fs. Fits n fs in (
      fits_same n (reverse c.in-Some.below.now) _
          (ap (λ (fs : List Frame). items_of fs) c.in_ok-stack-in-Leaves.ensures
          ∙ c.in_ok-anew-in-Leaves.ensures.comes.1)
          (subst P c.in-Some.ensures.0 c.requires.stands.0).1,
      c.waiting_after-waiting.ensures.fits,
      omega arith,
    )

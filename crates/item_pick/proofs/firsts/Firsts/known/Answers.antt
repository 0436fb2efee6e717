use Rattle.item_pick.proofs.Common.{◌≡◌, subst, sym, true, fails_at, fails_after, first_asked, is_asked, rest_asked, Question}
use Rattle.item_pick.proofs.firsts.Firsts.known.Goals as goal

pub returns-in-Here : goal.returns-in-Here
returns-in-Here c r stands e =
    subst (λ (q : Question). first_asked (is_asked q) r c.args.number c.args.item.0 ≡ true) (sym c.in-Here.is)
    (c.known.ensures (first_asked fails_at r) stands.here e)

pub returns-in-Before : goal.returns-in-Before
returns-in-Before c r stands e =
    subst (λ (q : Question). first_asked (is_asked q) r c.args.number c.args.item.0 ≡ true) (sym c.in-Before.is)
    (c.known-in-Before.ensures (first_asked fails_after r) stands.before e)

pub returns-in-Behind : goal.returns-in-Behind
returns-in-Behind c r stands e =
    subst (λ (q : Question). first_asked (is_asked q) r c.args.number c.args.item.0 ≡ true) (sym c.in-Behind.is)
    (c.known-in-Behind.ensures (first_asked rest_asked r) stands.behind e)

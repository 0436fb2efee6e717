use Rattle.item_pick.proofs.Common.{◌≡◌, ap, subst, sym, true, Item, rules_by, fails_at, fails_after, first_asked, is_asked, rest_asked, Question}
use Rattle.item_pick.proofs.KeptLaws.{first_told}
use Rattle.item_pick.proofs.asked.Asked.asks.Goals as goal

pub returns-in-Here : goal.returns-in-Here
returns-in-Here c e =
    let r = rules_by c.args.self.now in
    let by = c.args.by.now in
    subst (λ (q : Question). first_asked (is_asked q) r c.args.number by.item.0 ≡ true) (sym c.in-Here.is)
    (first_told fails_at r by.item c.args.number c.item_of.result.now.ignore (ap (λ (x : Item). x.ignore) c.item_of.ensures) by.pattern.now c.requires.first c.fails_at.result c.fails_at.ensures e)

pub returns-in-Before : goal.returns-in-Before
returns-in-Before c e =
    let r = rules_by c.args.self.now in
    let by = c.args.by.now in
    subst (λ (q : Question). first_asked (is_asked q) r c.args.number by.item.0 ≡ true) (sym c.in-Before.is)
    (first_told fails_after r by.item c.args.number c.item_of.result.now.ignore (ap (λ (x : Item). x.ignore) c.item_of.ensures) by.pattern.now c.requires.first c.fails_after.result c.fails_after.ensures e)

pub returns-in-Behind : goal.returns-in-Behind
returns-in-Behind c e =
    let r = rules_by c.args.self.now in
    let by = c.args.by.now in
    subst (λ (q : Question). first_asked (is_asked q) r c.args.number by.item.0 ≡ true) (sym c.in-Behind.is)
    (first_told rest_asked r by.item c.args.number c.item_of.result.now.ignore (ap (λ (x : Item). x.ignore) c.item_of.ensures) by.pattern.now c.requires.first c.rest_fails.result c.rest_fails.ensures e)

use Rattle.item_pick.proofs.Common.{◌∙◌, ap, Bool, Some, rules_by, is_asked}
use Rattle.item_pick.proofs.KeptLaws.{first_by}
use Rattle.item_pick.proofs.firsts.Firsts.ask.Goals as goal

pub returns-in-Some-clause-told : goal.returns-in-Some-clause-told
returns-in-Some-clause-told c e =
    let r = rules_by c.args.asked.now in
    first_by (is_asked c.args.question) r c.args.by.now.item c.args.number (c.known.ensures r c.requires.stands (c.in-Some.is ∙ ap (λ (b : Bool). Some b) e))

pub returns-clause-told : goal.returns-clause-told
returns-clause-told c e = first_by (is_asked c.args.question) (rules_by c.args.asked.now) c.args.by.now.item c.args.number (c.asks-yes.ensures e)

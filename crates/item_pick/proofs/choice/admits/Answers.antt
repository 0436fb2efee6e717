use Rattle.item_pick.proofs.Common.{◌<◌, length, sym, ap, ◌∙◌, subst, Choice, rules_by, admits, ChoiceFits}
use Rattle.item_pick.proofs.NextLaws.{follows_next}
use Rattle.item_pick.proofs.choice.admits.Goals as goal

pub returns-in-ListOf : goal.returns-in-ListOf
returns-in-ListOf c =
    let r = rules_by c.args.asked.now in
    let waiting = c.in-ListOf.waiting in
    let there : waiting.0 < length r.items = subst (ChoiceFits r) c.in-ListOf.is c.requires.choice in
    c.follows.ensures ∙ follows_next r waiting c.args.id there ∙ ap (λ (choice : Choice). admits r choice c.args.id) (sym c.in-ListOf.is)

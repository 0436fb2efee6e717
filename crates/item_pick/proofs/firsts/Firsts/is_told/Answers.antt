use Rattle.item_pick.proofs.Common.{◌∙◌, ap, Bool, Some}
use Rattle.item_pick.proofs.firsts.Firsts.is_told.Goals as goal

pub returns-in-Some : goal.returns-in-Some
returns-in-Some c e r stands = c.known.ensures r stands (c.in-Some.is ∙ ap (λ (b : Bool). Some b) e)

use Rattle.item_pick.proofs.Common.{◌∙◌, ap, Bool, Some, idles_before}
use Rattle.item_pick.proofs.firsts.Firsts.is_idle.Goals as goal

pub returns-in-Some : goal.returns-in-Some
returns-in-Some c e r stands = c.known.ensures (idles_before r) stands.idle (c.in-Some.is ∙ ap (λ (b : Bool). Some b) e)

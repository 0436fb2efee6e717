use Rattle.pattern_needs.proofs.HeldLaws.{others_held}
use Rattle.pattern_needs.proofs.characters.Characters.others.Goals as goal

pub returns : goal.returns
returns c = others_held

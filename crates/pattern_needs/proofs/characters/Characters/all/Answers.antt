use Rattle.pattern_needs.proofs.HeldLaws.{all_held}
use Rattle.pattern_needs.proofs.characters.Characters.all.Goals as goal

pub returns : goal.returns
returns c = all_held

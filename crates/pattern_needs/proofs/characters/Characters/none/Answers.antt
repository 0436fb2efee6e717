use Rattle.pattern_needs.proofs.HeldLaws.{none_held}
use Rattle.pattern_needs.proofs.characters.Characters.none.Goals as goal

pub returns : goal.returns
returns c = none_held

use Rattle.pattern_screens.proofs.Screened.{law}
use Rattle.pattern_screens.proofs.screens_are_sound.Goals as goal

pub returns : goal.returns
returns c = law

use Rattle.pattern_screens.proofs.FirstScreens.{first-law, fits-told}
use Rattle.pattern_screens.proofs.first_screens_are_sound.Goals as goal

pub returns : goal.returns
returns c = record { fit = fits-told; sound = first-law }

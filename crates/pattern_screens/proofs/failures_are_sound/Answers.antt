use Rattle.pattern_screens.proofs.BehindLaws.{behind-law}
use Rattle.pattern_screens.proofs.FailingLaws.{here-law}
use Rattle.pattern_screens.proofs.FollowingLaws.{after-law}
use Rattle.pattern_screens.proofs.failures_are_sound.Goals as goal

pub returns : goal.returns
returns c = record { here = here-law; before = after-law; behind = behind-law }

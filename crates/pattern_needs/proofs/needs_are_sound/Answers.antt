use Rattle.pattern_needs.proofs.NeedsLaws.{needs-law}
use Rattle.pattern_needs.proofs.needs_are_sound.Goals as goal

pub returns : goal.returns
returns c = needs-law

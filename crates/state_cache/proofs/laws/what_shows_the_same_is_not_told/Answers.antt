use Rattle.state_cache.proofs.ShownLaws.{nothing_told}
use Rattle.state_cache.proofs.laws.what_shows_the_same_is_not_told.Goals as goal

pub returns : goal.returns
returns c = nothing_told

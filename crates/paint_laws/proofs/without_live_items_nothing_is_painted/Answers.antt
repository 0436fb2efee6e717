use Rattle.paint_laws.proofs.NothingLaws.{nothing_is_painted}
use Rattle.paint_laws.proofs.without_live_items_nothing_is_painted.Goals as goal

pub returns : goal.returns
returns c = nothing_is_painted

use Rattle.paint_laws.proofs.PickLaws.{picks_come_first}
use Rattle.paint_laws.proofs.the_last_defined_item_starts.Goals as goal

pub returns : goal.returns
returns c = picks_come_first

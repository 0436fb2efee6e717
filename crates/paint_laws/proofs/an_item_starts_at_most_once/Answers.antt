use Rattle.paint_laws.proofs.StartLaws.{items_start_once, known_items_start, columns_run_to_their_end}
use Rattle.paint_laws.proofs.an_item_starts_at_most_once.Goals as goal

pub returns : goal.returns
returns c = record { once = items_start_once; known = known_items_start; whole = columns_run_to_their_end }

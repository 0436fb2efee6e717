use Rattle.region_ends.proofs.Common.{is_shut_at}
use Rattle.region_ends.proofs.searching.find_end.Goals as goal

pub find_anew-requires-clause-shut : goal.find_anew-requires-clause-shut
find_anew-requires-clause-shut g c = c.new.ensures (is_shut_at c.args.items.now c.args.sets.now c.args.budget)

-- The rows of the table, as they stand, are the groups that exist from the start.
use Rattle.std.proofs.Common.{refl}
use Rattle.hi_links.specs.UsualGroups.{usual_groups}
use Rattle.hi_links.proofs.usual.all_rows.Goals as goal

pub returns-clause-rows : goal.returns-clause-rows
unfolding usual_groups
returns-clause-rows c = refl

use Rattle.std.proofs.Common.{rules}
use Rattle.syntax_set.proofs.ListedLaws.{listed_whole}
use Rattle.syntax_set.proofs.cluster_list.listed.Goals as goal

pub invariant_of-result : goal.invariant_of-result
invariant_of-result c = listed_whole c.args.named _ (search rules)

use Rattle.std.proofs.Common.{refl}
use Rattle.syntax_set.proofs.ListedLaws.{listed_more}
use Rattle.syntax_set.proofs.cluster_list.ClusterList.add.Goals as goal

-- what is new was put behind the list
pub invariant_of-self : goal.invariant_of-self
invariant_of-self c =
    let old = c.self.inside in
    listed_more old.named c.insert_all.new.named old.list _ c.self.invariant c.in-Ok.ensures.begins refl c.in-Ok.ensures.listed

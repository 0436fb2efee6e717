use Rattle.syn_reader.proofs.ClusterLaws.{named_within}
use Rattle.syn_reader.proofs.names.Names.cluster_named.Goals as goal

pub returns-clause-within : goal.returns-clause-within
returns-clause-within c =
    named_within c.number.new.self c.args.name.now c.in_ok-cluster.cluster _ c.in_ok-cluster.ensures.number c.len-count.ensures.lists c.len-count.ensures.names

use Rattle.std.proofs.Common.{◌∙◌, sym}
use Rattle.syn_reader.proofs.ClusterLaws.{named_within}
use Rattle.syn_reader.proofs.reading.Reading.clear_cluster.Goals as goal

pub cluster_change-requires : goal.cluster_change-requires
cluster_change-requires c =
    named_within c.args.self.now.names.clusters c.args.name.now c.in-Some.cluster _ (sym c.in_ok-find.ensures ∙ c.in-Some.is) c.len-count.ensures.lists c.len-count.ensures.names

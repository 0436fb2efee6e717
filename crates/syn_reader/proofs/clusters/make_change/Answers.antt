use Rattle.std.proofs.Common.{length, ap, arith}
use Rattle.std.proofs.lemmas.List.{length-set}
use Rattle.syntax_set.specs.ClusterTable.{ClusterTable}
use Rattle.syn_reader.proofs.ClusterLaws.{list_within}
use Rattle.syn_reader.proofs.clusters.make_change.Goals as goal

pub cluster_change-requires : goal.cluster_change-requires
cluster_change-requires c =
    list_within c.args.names.now c.list_made.new.names c.args.change.now.list c.in_ok-list.list c.args.cluster c.in_ok-list.ensures c.requires

pub returns-clause-within : goal.returns-clause-within
returns-clause-within c =
    let within = list_within c.args.names.now c.list_made.new.names c.args.change.now.list c.in_ok-list.list c.args.cluster c.in_ok-list.ensures c.requires in
    let same = simp length-set at (ap (λ (table : ClusterTable). length table.lists) c.in_ok-cluster_change.ensures.changed) in
    omega arith

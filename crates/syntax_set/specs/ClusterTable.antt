-- Clusters, as contracts see them.
use Rattle.std.specs.Prelude.{ℕ, List, []}

-- the numbers of what a cluster names
pub record ClusterList : Type 0 where
  pub groups : List ℕ
  pub clusters : List ℕ

abbrev pub no_list : ClusterList
no_list = record { groups = []; clusters = [] }

-- the clusters in order of definition: the names as first written, and what each one has
pub record ClusterTable : Type 0 where
  pub names : List (List ℕ)
  pub lists : List ClusterList

abbrev pub no_clusters : ClusterTable
no_clusters = record { names = []; lists = [] }

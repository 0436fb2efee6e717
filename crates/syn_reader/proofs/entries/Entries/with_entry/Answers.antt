use Rattle.std.proofs.Common.{◌≡◌, ◌∷◌, ◌++◌, [], ap, ◌∙◌, Bool}
use Rattle.std.specs.Prelude.{not, if◌then◌else◌}
use Rattle.syntax_set.specs.Numbers.{has_number}
use Rattle.syntax_set.specs.declared.item.Entry.{Entry}
use Rattle.syn_reader.specs.NamedLists.{groups_in, clusters_in}
use Rattle.syn_reader.proofs.ListLaws.{group_kept, cluster_kept, when_new, when_known}
use Rattle.syn_reader.proofs.entries.Entries.with_entry.Goals as goal
use Rattle.syn_reader.proofs.entries.Entries.with_entry.Goals.{in-Group+in_ok-is_new-in-Group, in-Cluster+in_ok-is_new-in-Cluster, then-is_new+in_ok-push, else-is_new}

pub invariant_of-result : goal.invariant_of-result
invariant_of-result c =
    let old = c.self.inside in
    let now = c.if-is_new.entries in
    let new = c.match-entry.is_new in
    let more = old.entries ++ c.match-entry.entry ∷ [] in
    let grown : (known : Bool) → new ≡ not known → now ≡ (if known then old.entries else more) = λ known is.
    elim c.if-is_new.branch [
      | then-is_new+in_ok-push w ↦ when_new known new old.entries more now is w.if-is_new.true (w.entries-is ∙ w.in_ok-push.ensures.ok)
      | else-is_new w ↦ when_known known new old.entries more now is w.if-is_new.false w.entries-is
    ] in
    elim c.match-entry.branch [
      | in-Group+in_ok-is_new-in-Group w ↦
          let group = w.in-Group.group in
          let known = has_number (groups_in old.entries) group.0 in
          let is_new = w.is_new-is ∙ w.in_ok-is_new-in-Group.ensures.added ∙ ap (λ ks. not (has_number ks group.0)) c.self.invariant.0 in
          let entries = grown known is_new ∙ ap (λ (e : Entry). if known then old.entries else old.entries ++ e ∷ []) w.entry-is in
          rw (w.groups-is, w.clusters-is) (group_kept old.entries now old.groups.keys old.clusters.keys w.insert.new.self.keys group c.self.invariant w.in_ok-is_new-in-Group.ensures.keys entries)
      | in-Cluster+in_ok-is_new-in-Cluster w ↦
          let cluster = w.in-Cluster.cluster in
          let known = has_number (clusters_in old.entries) cluster in
          let is_new = w.is_new-is ∙ w.in_ok-is_new-in-Cluster.ensures.added ∙ ap (λ ks. not (has_number ks cluster)) c.self.invariant.1 in
          let entries = grown known is_new ∙ ap (λ (e : Entry). if known then old.entries else old.entries ++ e ∷ []) w.entry-is in
          rw (w.groups-is, w.clusters-is) (cluster_kept old.entries now old.groups.keys old.clusters.keys w.insert-in-Cluster.new.self.keys cluster c.self.invariant w.in_ok-is_new-in-Cluster.ensures.keys entries)
    ]

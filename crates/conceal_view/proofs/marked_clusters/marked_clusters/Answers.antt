use Rattle.std.proofs.Common.{◌≡◌, ◌<◌, ◌+◌, ◌++◌, List, ℕ, [], ◌∷◌, length, take, sym, ap, ◌∙◌, arith}
use Rattle.std.proofs.lemmas.List.{length_push, length-map, length-take-le}
use Rattle.syntax_set.specs.ClusterTable.{ClusterList, ClusterTable, no_list}
use Rattle.syntax_set.specs.ClusterLists.{with_change}
use Rattle.syntax_set.specs.declared.clusters.Change.TheVariants.{Set}
use Rattle.syntax_set.specs.declared.item.GroupList.{GroupList}
use Rattle.paint_marks.specs.Naming.{marked_cluster}
use Rattle.conceal_view.specs.MarkTables.{numbers_at}
use Rattle.conceal_view.proofs.WalkLaws.{lists_of_one_more, take_place}
use Rattle.conceal_view.proofs.marked_clusters.marked_clusters.Goals as goal

pub loop-place-preserved : goal.loop-place-preserved
loop-place-preserved c =
    let marks = numbers_at c.args.marks.now in
    let names = c.args.clusters.now.names in
    let lists = c.args.clusters.now.lists in
    let place = c.loop-place.place in
    let made = c.loop-place.marked in
    let entries = c.in_ok-list.list.entries in
    let within : place < length lists = omega (arith, c.loop-place-test.true, c.len-place-end.ensures.lists) in
    let as_many : length made.lists ≡ place =
    ap (λ (l : List ClusterList). length l) c.loop-place.invariant.lists
    ∙ length-map (take place lists) (marked_cluster marks)
    ∙ length-take-le place lists (omega (arith, within)) in
    let changed : c.cluster_change.new.self
    ≡ with_change (record { names = made.names ++ c.name.result.now ∷ []; lists = made.lists ++ no_list ∷ [] }) place Set entries =
    c.in_ok-cluster_change.ensures.changed ∙ ap (λ (t : ClusterTable). with_change t place Set entries) c.in_ok-add_named.ensures.added in
    let named : c.cluster_change.new.self.names ≡ take (place + 1) names =
    ap (λ (t : ClusterTable). t.names) changed
    ∙ ap (λ (ns : List (List ℕ)). ns ++ c.name.result.now ∷ []) c.loop-place.invariant.names
    ∙ sym (take_place names place c.name.result.now c.name.ensures) in
    let as_many_names : length made.names ≡ place =
    ap (λ (ns : List (List ℕ)). length ns) c.loop-place.invariant.names
    ∙ length-take-le place names (omega (arith, c.loop-place-test.true, c.len-place-end.ensures.names)) in
    record {
      names = named;
      lists = lists_of_one_more marks lists place c.list.result.now entries made.lists c.cluster_change.new.self.lists
          within c.list.ensures (ap (λ (l : GroupList). l.entries) c.in_ok-list.ensures) c.loop-place.invariant.lists as_many
          (ap (λ (t : ClusterTable). t.lists) changed);
      few = omega (arith, as_many_names, length_push made.names c.name.result.now, ap (λ (t : ClusterTable). length t.names) c.in_ok-add_named.ensures.added, c.in_ok-add_named.ensures.most);
    }

use Rattle.std.proofs.Common.{◌≡◌, ℕ, suc, ◌-◌, true, false, ◌||◌, List, get_or, take_all, sym, ◌∙◌, ap, arith}
use Rattle.std.proofs.lemmas.List.Folds.{list_any_at}
use Rattle.std.specs.List.{list_any}
use Rattle.syntax_set.specs.Numbers.{has_number}
use Rattle.syntax_set.specs.ClusterTable.{ClusterList, no_list}
use Rattle.syntax_set.specs.Membership.{cluster_has}
use Rattle.syntax_set.proofs.Passing.{or_left, or_right}
use Rattle.syntax_set.proofs.ListAt.{list_at-get_or}
use Rattle.syntax_set.proofs.KeptLaws.{cluster_has-past, cluster_has-none, cluster_has-further}
use Rattle.syntax_set.proofs.cluster_graph.+has_within.Goals as goal

-- what a cluster has whose list is there, where a level is left
has-there : (lists : List ClusterList) (levels group cluster : ℕ) (list : ClusterList) → (levels ≡ 0 → ⊥) → list ≡ get_or lists cluster no_list → cluster_has lists levels group cluster ≡ (has_number list.groups group || list_any (cluster_has lists (levels - 1) group) list.clusters)
has-there lists levels group cluster list some e =
    let more : levels ≡ suc (levels - 1) = omega (arith, some) in
    cluster_has-further lists levels (levels - 1) group cluster list more (list_at-get_or lists cluster ∙ sym e)

pub returns-in_default : goal.returns-in_default
returns-in_default t c =
    sym (cluster_has-past c.args.lists.now c.args.levels c.args.group c.args.cluster c.in_default.ensures.lookup.3)

pub returns-then-levels-eq0 : goal.returns-then-levels-eq0
returns-then-levels-eq0 t c = sym (cluster_has-none c.args.lists.now c.args.levels c.args.group c.args.cluster c.if-levels-eq0.true)

-- its own list names the group
pub returns-then-contains : goal.returns-then-contains
returns-then-contains t c =
    let lists = c.args.lists.now in
    let list = c.in-Some.list.now in
    let among : has_number list.groups c.args.group ≡ true =
    ap (λ l. has_number l c.args.group) (sym c.groups.ensures) ∙ sym c.contains.ensures ∙ c.if-contains.true in
    sym (has-there lists c.args.levels c.args.group c.args.cluster list c.if-levels-eq0.false (c.in-Some.ensures.lookup.4 (omega arith) no_list)
    ∙ or_left (has_number list.groups c.args.group) (list_any (cluster_has lists (c.args.levels - 1) c.args.group) list.clusters) among)

-- a cluster that it names has the group
pub returns-then-has_within : goal.returns-then-has_within
returns-then-has_within t c =
    let lists = c.args.lists.now in
    let list = c.in-Some.list.now in
    let test = cluster_has lists (c.args.levels - 1) c.args.group in
    let named = c.clusters-named-items.result.now in
    let some : list_any test list.clusters ≡ true =
    ap (list_any test) (sym c.clusters-named-items.ensures)
    ∙ list_any_at test named c.loop-named.named-index 0 c.loop-named-test.true (sym c.has_within.ensures ∙ c.if-has_within.true) in
    sym (has-there lists c.args.levels c.args.group c.args.cluster list c.if-levels-eq0.false (c.in-Some.ensures.lookup.4 (omega arith) no_list)
    ∙ or_right (has_number list.groups c.args.group) (list_any test list.clusters) some)

-- neither it nor those that it names have the group
pub returns : goal.returns
returns t c =
    let lists = c.args.lists.now in
    let list = c.in-Some.list.now in
    let test = cluster_has lists (c.args.levels - 1) c.args.group in
    let named = c.clusters-named-items.result.now in
    let own : has_number list.groups c.args.group ≡ false =
    ap (λ l. has_number l c.args.group) (sym c.groups.ensures) ∙ sym c.contains.ensures ∙ c.if-contains.false in
    let none : list_any test list.clusters ≡ false =
    ap (list_any test) (sym (take_all c.loop-named.named-index named (omega arith) ∙ c.clusters-named-items.ensures)) ∙ c.loop-named.invariant in
    sym (has-there lists c.args.levels c.args.group c.args.cluster list c.if-levels-eq0.false (c.in-Some.ensures.lookup.4 (omega arith) no_list)
    ∙ ap (λ b. b || list_any test list.clusters) own
    ∙ none)

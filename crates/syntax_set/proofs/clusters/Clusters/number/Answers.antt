use Rattle.std.proofs.Common.{◌≡◌, ◌≤◌, List, [], ◌∷◌, ◌++◌, length, ap, sym, ◌∙◌, Some, cond, Result, Ok, is_ok}
use Rattle.syntax_set.specs.ClusterTable.{ClusterTable, no_list}
use Rattle.syntax_set.specs.ClusterLists.{cluster_of}
use Rattle.syntax_set.specs.Groups.{with_group}
use Rattle.syntax_set.proofs.KeptLaws.{holds-number}
use Rattle.syntax_set.proofs.clusters.Clusters.number.Goals as goal

-- a push that succeeded
pushed : {X U E : Type 0} (xs old new : List X) (y z : X) (r : Result U E) (u : U) → new ≡ cond (is_ok r) (old ++ y ∷ []) old → r ≡ Ok u → old ≡ xs → y ≡ z → new ≡ xs ++ z ∷ []
pushed {X} {U} {E} xs old new y z r u e ok f g =
    e ∙ ap (λ (o : Result U E). cond (is_ok o) (old ++ y ∷ []) old) ok ∙ ap (λ l. l ++ y ∷ []) f ∙ ap (λ x. xs ++ x ∷ []) g

pub invariant_of-self-2 : goal.invariant_of-self-2
invariant_of-self-2 c =
    let name = c.args.name.now in
    let old = c.self.inside in
    let names : c.number.new.self ≡ with_group old.names name = c.in_ok-number.ensures.names in
    let few : length c.number.new.self ≤ 20000 = c.in_ok-number.ensures.most in
    let lists : c.push.new.self.items ≡ old.lists.items ++ no_list ∷ [] =
    pushed old.lists.items c.reserve.new.self.items c.push.new.self.items c.new.result no_list c.push.result c.unwrap.result
    c.push.ensures.items c.unwrap.ensures c.in_ok-reserve.ensures.items c.new.ensures in
    holds-number old.names c.number.new.self old.lists.items c.push.new.self.items _ name
    c.self.invariant
    (λ n e.
    let there : cluster_of c.args.self.now name ≡ Some n = sym (ap (λ (t : ClusterTable). cluster_of t name) c.self.view_is) ∙ e in
    c.in_default.not-Some n (c.in_ok-cluster.ensures ∙ there))
    names few lists

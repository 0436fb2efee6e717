use Rattle.std.proofs.Common.{◌≡◌, ◌∙◌, subst, option_map, Some}
use Rattle.syntax_set.specs.ClusterTable.{no_list}
use Rattle.syntax_set.specs.ClusterLists.{with_entries}
use Rattle.syntax_set.specs.NamedLists.{IsNamedBy}
use Rattle.syntax_set.proofs.NamedLaws.{named_has-entries}
use Rattle.syntax_set.proofs.kept_item.has_group.Goals as goal

pub returns-in-Some : goal.returns-in-Some
returns-in-Some c =
    let list = c.args.list.now in
    let named : c.in-Some.named.now ≡ with_entries no_list list.entries =
    subst (λ o. IsNamedBy (Some list) (option_map (λ n. n.now) o)) c.in-Some.is c.requires in
    c.names_have.ensures ∙ named_has-entries c.args.clusters.now.lists c.in-Some.named.now list.entries c.args.group named

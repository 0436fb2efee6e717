use Rattle.std.proofs.Common.{◌∙◌, ap, None, Some}
use Rattle.syntax_set.specs.Groups.{group_of}
use Rattle.syntax_set.proofs.GroupLaws.{found_group}
use Rattle.syntax_set.proofs.groups.Groups.find.Goals as goal

pub returns-in-Some : goal.returns-in-Some
returns-in-Some c =
    found_group c.self.inside.names.entries _ c.args.name.now (Some c.in-Some.number) c.self.invariant.by_lower_case
    (c.as_str.ensures.value ∙ c.in_ok-lower.ensures.ok) c.in-Some.ensures.index
    ∙ ap (λ names. group_of names c.args.name.now) c.self.view_is

pub returns : goal.returns
returns c =
    found_group c.self.inside.names.entries _ c.args.name.now None c.self.invariant.by_lower_case
    (c.as_str.ensures.value ∙ c.in_ok-lower.ensures.ok) c.in-None.ensures.index
    ∙ ap (λ names. group_of names c.args.name.now) c.self.view_is

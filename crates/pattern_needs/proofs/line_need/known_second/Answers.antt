use Rattle.std.proofs.Common.{Bool, ap, subst}
use Rattle.char_class.specs.declared.sets.Sets.{Sets}
use Rattle.vim_pattern.specs.Shape.{Shape, bare}
use Rattle.match_rules.specs.Attempt.{ignores_case}
use Rattle.vim_pattern.specs.Tree.{PatternTree}
use Rattle.pattern_needs.specs.LineNeeds.{IsSecondNeeded}
use Rattle.pattern_needs.specs.Nonblanks.{IsSecondTold}
use Rattle.pattern_needs.proofs.LineNeedLaws.{second-needed}
use Rattle.pattern_needs.proofs.line_need.known_second.Goals as goal

pub returns : goal.returns
returns c =
    let sets = c.of-by.result.sets.now in
    let told = c.in_ok-told.told in
    let by_case = subst (λ (i : Bool). IsSecondTold sets i (bare c.tree.inside.node) told) c.of-by.ensures.ignore c.in_ok-told.ensures in
    let by_tree = subst (λ (n : Shape). IsSecondTold sets (ignores_case c.args.tree.now c.args.ignore) n told) (ap (λ (t : PatternTree). t.node) c.tree.view_is) by_case in
    subst (λ (s : Sets). IsSecondNeeded s c.args.ignore c.args.budget c.args.tree.now (record { characters = c.in_ok-told.told.characters; most = c.in_ok-longest_front.field-0 })) c.of-by.ensures.sets
    (second-needed sets c.args.ignore c.args.budget c.args.tree.now told c.in_ok-longest_front.field-0 by_tree c.in_ok-longest_front.ensures)

use Rattle.std.proofs.Common.{Bool, ap, subst}
use Rattle.char_class.specs.declared.sets.Sets.{Sets}
use Rattle.vim_pattern.specs.Shape.{Shape, bare}
use Rattle.match_rules.specs.Attempt.{ignores_case}
use Rattle.vim_pattern.specs.Tree.{PatternTree}
use Rattle.pattern_needs.specs.LineNeeds.{IsLastNeeded}
use Rattle.pattern_needs.specs.Endings.{IsLastTold}
use Rattle.pattern_needs.specs.Fronts.{stopped}
use Rattle.pattern_needs.specs.Spreads.{IsCheapPart}
use Rattle.pattern_needs.proofs.LineNeedLaws.{last-needed}
use Rattle.pattern_needs.proofs.line_need.known_last.Goals as goal

pub returns : goal.returns
returns c =
    let sets = c.of-by.result.sets.now in
    let told = c.in_ok-told.told in
    let most = c.in_ok-longest_stop.field-0 in
    let by_case = subst (λ (i : Bool). IsLastTold sets i (bare c.tree.inside.node) told) c.of-by.ensures.ignore c.in_ok-told.ensures in
    let by_tree = subst (λ (n : Shape). IsLastTold sets (ignores_case c.args.tree.now c.args.ignore) n told) (ap (λ (t : PatternTree). t.node) c.tree.view_is) by_case in
    let cheap_case = subst (λ (i : Bool). IsCheapPart sets i most (stopped (bare c.tree.inside.node) told.number) c.args.budget) c.of-by.ensures.ignore c.in_ok-longest_stop.ensures in
    let cheap = subst (λ (n : Shape). IsCheapPart sets (ignores_case c.args.tree.now c.args.ignore) most (stopped n told.number) c.args.budget) (ap (λ (t : PatternTree). t.node) c.tree.view_is) cheap_case in
    subst (λ (s : Sets). IsLastNeeded s c.args.ignore c.args.budget c.args.tree.now (record { characters = told.characters; most = most })) c.of-by.ensures.sets
    (last-needed sets c.args.ignore c.args.budget c.args.tree.now told most by_tree cheap)

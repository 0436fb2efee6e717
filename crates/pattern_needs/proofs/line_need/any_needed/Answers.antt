use Rattle.std.proofs.Common.{◌≡◌, ◌∙◌, ℕ, Bool, true, ap, sym, subst}
use Rattle.char_class.specs.declared.sets.Sets.{Sets}
use Rattle.vim_pattern.specs.Shape.{bare}
use Rattle.vim_pattern.specs.Tree.{PatternTree}
use Rattle.pattern_needs.specs.Asking.{atoms_in}
use Rattle.pattern_needs.specs.Characters.{holds}
use Rattle.pattern_needs.specs.Fronts.{piece_upto}
use Rattle.pattern_needs.specs.LineNeeds.{IsOneNeeded}
use Rattle.pattern_needs.specs.Needs.{needed, some_takes}
use Rattle.pattern_needs.proofs.LineNeedLaws.{is-known, one-needed}
use Rattle.pattern_needs.proofs.line_need.any_needed.Goals as goal

pub returns : goal.returns
returns c =
    let sets = c.of-by.result.sets.now in
    let telling = c.telling_front-telling.result in
    let part = bare telling.part.now in
    let is = c.telling_front-telling.ensures ∙ ap (λ (t : PatternTree). piece_upto telling.upto t.node) c.tree.view_is in
    let known = is-known sets c.of-by.result.ignore 32 (needed part) c.in_ok-ask.field-0 (sym c.ask.ensures ∙ c.in_ok-ask.was) in
    let taken = subst (λ (i : Bool). (d : ℕ) → some_takes sets i (atoms_in (needed part)) d ≡ true → holds c.taken_by.result d ≡ true) c.of-by.ensures.ignore c.taken_by.ensures in
    subst (λ (s : Sets). IsOneNeeded s c.args.ignore c.args.budget c.args.tree.now (record { characters = c.taken_by.result; most = c.in_ok-longest_front.field-0 })) c.of-by.ensures.sets
    (one-needed sets c.args.ignore c.args.budget c.args.tree.now telling.upto part _ is known taken c.in_ok-longest_front.ensures)

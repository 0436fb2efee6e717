-- What is answered of an attempt is what the rules say of it.
use Rattle.region_ends.proofs.Common.{◌≡◌, ℕ, ◌≤◌, Bool, true, false, List, refl, sym, ap, arith, subst, Option, Some, None, nat_lt, if◌then◌else◌, IfOk-weaker, nat_tests, Sets, ItemId, Place, PatternTree, Text, attempt, Attempt, match_of, IsToldOn, Pattern, context_of, IsAttempted, IsTried, slice_get_within, Way, IsPlaceOf, Answer, within_budget, attempt_in}
use Rattle.paint_rules.specs.Syntax.{attempt_by}
use Rattle.std.specs.Prelude.{Result, IfOk, option_map}
use Rattle.pattern_match.specs.declared.answer.Attempt.TheVariants as tried
use Rattle.pattern_match.specs.Answers.{answered, found_or_absent, IsAttempt}
use Rattle.pattern_match.proofs.AnswerLaws.{answers-on}
use Rattle.syntax_set.specs.Soundness.{IsAdded}
use Rattle.paint_rules.specs.Rules as rule

by_way : (budget : ℕ) (text : Text) (start : Place) (answer : Answer) (o : Option Way) → answer.way ≡ o → answer.cost ≤ budget →
    IsAttempted (found_or_absent text start answer o) budget (attempt_in text start answer)
by_way budget text start answer None e h = (h, ap (option_map (match_of text start)) e, refl)
by_way budget text start answer (Some w) e h = (h, ap (option_map (match_of text start)) e, refl)

by_cost : (budget : ℕ) (text : Text) (start : Place) (answer : Answer) (over : Bool) → nat_lt budget answer.cost ≡ over →
    IsAttempted (if over then tried.TooCostly else found_or_absent text start answer answer.way) budget (attempt_in text start answer)
by_cost budget text start answer true e = grind (arith, nat_tests)
by_cost budget text start answer false e =
    let less : answer.cost ≤ budget = grind (arith, nat_tests) in
    by_way budget text start answer answer.way refl less

pub answer_is : (budget : ℕ) (sets : Sets) (text : Text) (tree : PatternTree) (ignore : Bool) (externals : List (List ℕ)) (start : Place) (told : Attempt) →
    told ≡ answered budget text start (attempt tree (context_of sets text ignore externals) start) →
    IsAttempted told budget (attempt_by sets text tree ignore externals start)
unfolding attempt_by
answer_is budget sets text tree ignore externals start told e =
    let answer = attempt tree (context_of sets text ignore externals) start in
    subst (λ (t : Attempt). IsAttempted t budget (attempt_in text start answer)) (sym e)
    (by_cost budget text start answer (nat_lt budget answer.cost) refl)

module _ {E : Type 0} (r : Result Attempt E) (budget : ℕ) (trees : List PatternTree) (pattern : Pattern) (sets : Sets) (text : Text) (ignore : Bool) (externals : List (List ℕ)) (start : Place) (added : IsAdded trees pattern)
    (is : IfOk r (IsAttempt budget trees pattern.id.0 (context_of sets text ignore externals) start)) where
  pub attempt_is : IfOk r (λ a. IsAttempted a budget (attempt_by sets text pattern.tree ignore externals start))
  attempt_is = IfOk-weaker r _ _ (λ a h. answer_is budget sets text pattern.tree ignore externals start a (h pattern.tree added)) is

  pub attempt_on : IsPlaceOf text start → IfOk r (IsToldOn text start)
  attempt_on place = IfOk-weaker r _ _ (λ a h. answers-on trees budget pattern.id.0 (context_of sets text ignore externals) start a (slice_get_within trees pattern.id.0 pattern.tree added) place h) is

-- an attempt within the budget has its answer, and any other is refused
pub within : (i : ItemId) (budget : ℕ) (a : rule.Attempt) (t : Attempt) → IsAttempted t budget a → IsTried t i (within_budget i budget a)
within i budget a (tried.Found m k) h =
    let e : nat_lt budget a.cost ≡ false = grind (arith, nat_tests, h.0) in
    rw (within_budget, e, h.1, h.2) refl
within i budget a (tried.Absent k) h =
    let e : nat_lt budget a.cost ≡ false = grind (arith, nat_tests, h.0) in
    rw (within_budget, e, h.1, h.2) refl
within i budget a tried.TooCostly h =
    let e : nat_lt budget a.cost ≡ true = grind (arith, nat_tests, h) in
    rw (within_budget, e) refl

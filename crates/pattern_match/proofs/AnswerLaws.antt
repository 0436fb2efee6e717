-- What is answered of an attempt that stays on the text stays on it.
use Rattle.std.proofs.Common.{◌≡◌, ℕ, Bool, true, false, inl, inr, List, sym, subst, arith}
use Rattle.std.specs.Prelude.{Option, Some, None, nat_lt, if◌then◌else◌}
use Rattle.std.proofs.lemmas.Option.{slice_get_cases}
use Rattle.syn_base.specs.declared.places.Place.{Place}
use Rattle.vim_pattern.specs.Tree.{PatternTree}
use Rattle.match_rules.specs.Ways.{Text, Context, Way, IsPlaceOf}
use Rattle.match_rules.specs.Attempt.{Answer, attempt}
use Rattle.match_rules.specs.OnText.{IsWayOn, StaysOn}
use Rattle.match_rules.proofs.OnText.{law}
use Rattle.pattern_match.specs.declared.answer.Attempt.{Attempt}
use Rattle.pattern_match.specs.declared.answer.Attempt.TheVariants.{TooCostly}
use Rattle.pattern_match.specs.Answers.{found_or_absent, answered}
use Rattle.pattern_match.specs.OnText.{IsToldOn, AnswersStayOnText}

by_way : (text : Text) (start : Place) (answer : Answer) (o : Option Way) →
    StaysOn text start answer → IsWayOn text start o →
    IsToldOn text start (found_or_absent text start answer o)
by_way text start answer None h k = h.looked
by_way text start answer (Some w) h k = (
  record { whole = k.whole; captures = k.captures },
  h.looked,
)

by_cost : (text : Text) (start : Place) (answer : Answer) (over : Bool) →
    StaysOn text start answer →
    IsToldOn text start (if over then TooCostly else found_or_absent text start answer answer.way)
by_cost text start answer true h = tt
by_cost text start answer false h = by_way text start answer answer.way h h.way

told-on : (x : Context) (start : Place) (budget : ℕ) (tree : PatternTree) (told : Attempt) →
    IsPlaceOf x.text start →
    told ≡ answered budget x.text start (attempt tree x start) → IsToldOn x.text start told
told-on x start budget tree told on e =
    subst (IsToldOn x.text start) (sym e)
    (by_cost x.text start (attempt tree x start) (nat_lt budget (attempt tree x start).cost)
    (law tree x start on))

pub answers-on : (trees : List PatternTree) → AnswersStayOnText trees
answers-on trees budget number x start told within on is =
    elim (slice_get_cases trees number).1 [
      | inl h ↦ told-on x start budget h.0 told on (is h.0 h.2)
      | inr h ↦ absurd (omega (arith, h.0))
    ]

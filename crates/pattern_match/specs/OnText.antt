-- What is answered of an attempt stays on the text, as the attempt does.
use Rattle.std.specs.Prelude.{ℕ, ◌<◌, List, None, length, get_or}
use Rattle.syn_base.specs.declared.places.Place.{Place}
use Rattle.vim_pattern.specs.Tree.{PatternTree}
use Rattle.match_rules.specs.Ways.{Text, Context, IsPlaceOf}
use Rattle.match_rules.specs.OnText.{IsStretchOf, IsCaptureOf, AreLinesAbout}
use Rattle.pattern_match.specs.declared.answer.Match.{Match}
use Rattle.pattern_match.specs.declared.answer.Attempt.{Attempt}
use Rattle.pattern_match.specs.declared.answer.Attempt.TheVariants.{Found, Absent, TooCostly}
use Rattle.pattern_match.specs.Answers.{IsAttempt}

pub record IsFoundOn (text : Text) (found : Match) : Type 0 where
  pub whole : IsStretchOf text found.from found.to
  pub captures : (i : ℕ) → IsCaptureOf text (get_or found.caps i None)

abbrev pub IsToldOn : Text → Place → Attempt → Type 0
IsToldOn text start (Found found looked) = IsFoundOn text found × AreLinesAbout text start looked
IsToldOn text start (Absent looked) = AreLinesAbout text start looked
IsToldOn text start TooCostly = Unit {0}

-- the law, of what `Programs::attempt` answers
abbrev pub AnswersStayOnText : List PatternTree → Type 0
AnswersStayOnText trees =
    (budget number : ℕ) (x : Context) (start : Place) (told : Attempt) →
    number < length trees → IsPlaceOf x.text start → IsAttempt budget trees number x start told →
    IsToldOn x.text start told

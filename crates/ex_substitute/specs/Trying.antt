-- A command's pattern, tried at places of a text, up to the first match that counts.
use Rattle.std.specs.Prelude.{ℕ, suc, zero, ◌-◌, ◌+◌, Bool, true, false, List, [], ◌∷◌, ◌++◌, Option, Some, None, length, Result, Ok, Err}
use Rattle.syn_base.specs.declared.places.Place.{Place}
use Rattle.vim_pattern.specs.Tree.{PatternTree}
use Rattle.match_rules.specs.Ways.{Text, Context, line_at, place}
use Rattle.match_rules.specs.Attempt.{attempt}
use Rattle.pattern_match.specs.declared.answer.Match.{Match}
use Rattle.pattern_match.specs.declared.answer.Attempt.{Attempt}
use Rattle.pattern_match.specs.declared.answer.Attempt.TheVariants.{Found, Absent, TooCostly as Costly}
use Rattle.pattern_match.specs.Answers.{answered}
use Rattle.ex_substitute.specs.declared.error.ExError.{ExError}
use Rattle.ex_substitute.specs.declared.error.ExError.TheVariants.{TooCostly}
use Rattle.ex_substitute.specs.Answers.{◌>>=◌}

-- the pattern, what it is tried against, and the most that one attempt may cost
pub record Trial : Type 0 where
  pub tree : PatternTree
  pub x : Context
  pub budget : ℕ

-- what an attempt at a place tells: a match, or none, or that it passes the budget
abbrev pub told_at : Place → Attempt → Result (Option Match) ExError
told_at p (Found m looked) = Ok (Some m)
told_at p (Absent looked) = Ok None
told_at p Costly = Err (TooCostly p)

abbrev pub tried : Trial → Place → Result (Option Match) ExError
tried t p = told_at p (answered t.budget t.x.text p (attempt t.tree t.x p))

-- ---- the places that are tried, in their order

-- so many places of a line from a column on
abbrev pub columns : ℕ → ℕ → ℕ → List Place
columns line col zero = []
columns line col (suc more) = place line col ∷ columns line (col + 1) more

-- those of a line from a column on, up to and with its end
abbrev pub places_in : Text → ℕ → ℕ → List Place
places_in text line col = columns line col (length (line_at text line) + 1 - col)

-- those of so many lines
abbrev pub places_of : Text → ℕ → ℕ → List Place
places_of text line zero = []
places_of text line (suc more) = places_in text line 0 ++ places_of text (line + 1) more

-- ---- the first match

-- whether a match that is found at a place counts
abbrev pub Counts : Type 0
Counts = Place → Match → Bool

abbrev pub is_counted_by : Counts → Place → Option Match → Bool
is_counted_by counts p None = false
is_counted_by counts p (Some m) = counts p m

-- the first match that counts, or the first attempt before it that passes the budget
abbrev pub first_of : Trial → Counts → List Place → Result (Option Match) ExError
first_of t counts [] = Ok None
first_of t counts (p ∷ places) =
    tried t p >>= λ found. elim (is_counted_by counts p found) [ true ↦ Ok found | false ↦ first_of t counts places ]

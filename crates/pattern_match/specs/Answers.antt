-- What an attempt of a ready pattern answers.
use Rattle.std.specs.Prelude.{◌≡◌, ℕ, pos, nat_lt, List, Option, Some, None, replicate, slice_get, if◌then◌else◌}
use Rattle.syn_base.specs.declared.looked.Looked.{Looked}
use Rattle.syn_base.specs.Looked.{one_line}
use Rattle.syn_base.specs.declared.places.Place.{Place}
use Rattle.vim_pattern.specs.Tree.{PatternTree}
use Rattle.match_rules.specs.Ways.{Text, Capture, Context, Way}
use Rattle.match_rules.specs.Attempt.{Answer, attempt, lines_of, match_from, match_to, externals_of}
use Rattle.pattern_match.specs.declared.answer.Match.{Match}
use Rattle.pattern_match.specs.declared.answer.Attempt.{Attempt}
use Rattle.pattern_match.specs.declared.answer.Attempt.TheVariants.{Found, Absent, TooCostly}

-- the places of nine groups: those that are kept, or none where no group matched
abbrev pub nine_captures : Option (List Capture) → List Capture
nine_captures None = replicate 9 None
nine_captures (Some places) = places

-- the lines looked at; that of the start where there was no tick
abbrev pub lines_or_start : Place → Option Looked → Looked
lines_or_start start None = one_line (pos start.line)
lines_or_start start (Some looked) = looked

abbrev pub match_of : Text → Place → Way → Match
match_of text start w = record {
  from = match_from start w;
  to = match_to start w;
  caps = w.captures;
  externals = externals_of text w;
}

abbrev pub found_or_absent : Text → Place → Answer → Option Way → Attempt
found_or_absent text start answer None = Absent (lines_of start answer)
found_or_absent text start answer (Some w) = Found (match_of text start w) (lines_of start answer)

-- the first way, or that there is none, within the budget
abbrev pub answered : ℕ → Text → Place → Answer → Attempt
answered budget text start answer =
    if nat_lt budget answer.cost then TooCostly else found_or_absent text start answer answer.way

-- what is answered of a pattern by its number
abbrev pub IsAttempt : ℕ → List PatternTree → ℕ → Context → Place → Attempt → Type 0
IsAttempt budget trees number x start told =
    (tree : PatternTree) → slice_get trees number ≡ Some tree →
    told ≡ answered budget x.text start (attempt tree x start)

-- Deletions by pattern (Vim's help, :g, :v): the lines that are chosen, and what is left.
use Rattle.std.specs.Prelude.{ℕ, zero, suc, ◌+◌, ◌-◌, nat_eq, Bool, true, not, List, [], ◌∷◌, ◌++◌, take, drop, length, is_some, Result, Ok, Err, if◌then◌else◌}
use Rattle.match_rules.specs.Ways.{Text}
use Rattle.ex_substitute.specs.declared.change.Change.{Change}
use Rattle.ex_substitute.specs.declared.error.ExError.{ExError}
use Rattle.ex_substitute.specs.declared.error.ExError.TheVariants.{NoMatch}
use Rattle.ex_substitute.specs.Answers.{◌>>=◌}
use Rattle.ex_substitute.specs.Changes.{within_limits}
use Rattle.ex_substitute.specs.Trying.{Trial, Counts, first_of, places_in}

-- each match counts, wherever it begins
abbrev pub any_match : Counts
any_match p m = true

-- a line is chosen if an attempt at one of its columns matches, or, of the others, if none does
abbrev pub is_chosen : Trial → Bool → ℕ → Result Bool ExError
is_chosen t others line =
    first_of t any_match (places_in t.x.text line 0) >>= λ found. Ok (if others then not (is_some found) else is_some found)

-- the numbers of the chosen ones of so many lines from one on
abbrev pub chosen_from : Trial → Bool → ℕ → ℕ → Result (List ℕ) ExError
chosen_from t others line zero = Ok []
chosen_from t others line (suc more) = do
  chosen ← is_chosen t others line
  rest ← chosen_from t others (line + 1) more
  Ok (if chosen then line ∷ rest else rest)

-- the lines from one on that stand between these, up to the last of them
abbrev pub kept_from : Text → ℕ → List ℕ → List (List ℕ)
kept_from text line [] = []
kept_from text line (chosen ∷ rest) = take (chosen - line) (drop line text) ++ kept_from text (chosen + 1) rest

-- one empty line, if no line would be left
abbrev pub left_over : Text → ℕ → List ℕ → List (List ℕ)
left_over text first rest =
    if nat_eq (length (first ∷ rest)) (length text) then [] ∷ [] else kept_from text (first + 1) rest

abbrev pub last_of : ℕ → List ℕ → ℕ
last_of line [] = line
last_of line (next ∷ rest) = last_of next rest

-- from the first chosen line up to the last one
abbrev pub deletion : Text → ℕ → List ℕ → Change
deletion text first rest = record {
  a = first;
  b = last_of first rest + 1;
  new = left_over text first rest;
  count = length (first ∷ rest);
}

abbrev pub deleted : Text → List ℕ → Result Change ExError
deleted text [] = Err NoMatch
deleted text (first ∷ rest) = within_limits text (deletion text first rest)

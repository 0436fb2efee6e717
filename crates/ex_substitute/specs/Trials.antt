-- What the code tries with, as the rules see it.
use Rattle.std.specs.Prelude.{◌≡◌, ◌<◌, ◌≤◌, ℕ, List, None, Ok}
use Rattle.match_rules.specs.Ways.{Text, line_at, place}
use Rattle.pattern_match.specs.Contexts.{context_in}
use Rattle.ex_substitute.specs.declared.trying.Wanted.{Wanted}
use Rattle.ex_substitute.specs.declared.trying.Wanted.TheVariants.{Any, Behind}
use Rattle.ex_substitute.specs.Begins.{Setting}
use Rattle.ex_substitute.specs.Deleting.{any_match}
use Rattle.ex_substitute.specs.Searching.{is_taken}
use Rattle.ex_substitute.specs.Trying.{Trial, Counts, tried}

abbrev pub trial_in : Text → Setting → Trial
trial_in text s = record { tree = s.tree; x = context_in text s.context; budget = s.budget }

abbrev pub counts_of : Wanted → Counts
counts_of Any = any_match
counts_of (Behind end) = is_taken end

-- wherever this line stands in a text, an attempt at the column is within the budget and tells of no match
abbrev pub IsVain : Setting → List ℕ → ℕ → Type 0
IsVain s line col = (text : Text) (number : ℕ) → line_at text number ≡ line → tried (trial_in text s) (place number col) ≡ Ok None

-- so at the columns from one on up to, and without, another
abbrev pub AreVain : Setting → List ℕ → ℕ → ℕ → Type 0
AreVain s line from to = (col : ℕ) → from ≤ col → col < to → IsVain s line col

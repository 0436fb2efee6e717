-- How the code counts the lines that a text has with its matches replaced.
use Rattle.std.specs.Prelude.{◌≡◌, ◌≤◌, ◌<◌, ℕ, zero, suc, ◌+◌, ◌*◌, nat_eq, Bool, true, false, cond, List, [], ◌∷◌, Result, Ok, Err}
use Rattle.syn_base.specs.declared.places.Place.{Place}
use Rattle.match_rules.specs.Ways.{Text}
use Rattle.pattern_match.specs.declared.answer.Match.{Match}
use Rattle.ex_substitute.specs.declared.error.ExError.{ExError}
use Rattle.ex_substitute.specs.declared.error.ExError.TheVariants.{TooManyLines}
use Rattle.ex_substitute.specs.declared.line_count.Tally.{Tally}
use Rattle.ex_substitute.specs.declared.string.Piece.{Piece}
use Rattle.ex_substitute.specs.declared.string.Piece.TheVariants.{Break, Group}
use Rattle.ex_substitute.specs.Glyphs.{Glyph, sign, line_break, between}
use Rattle.ex_substitute.specs.Putting.{group_of, text_of}

abbrev pub breaks : List Glyph → ℕ
breaks [] = 0
breaks (sign c ∷ run) = breaks run
breaks (line_break ∷ run) = 1 + breaks run

-- ---- how often a string has a break, and each group

abbrev pub is_break : Piece → Bool
is_break Break = true
is_break _ = false

abbrev pub is_group : ℕ → Piece → Bool
is_group number (Group k) = nat_eq k number
is_group number _ = false

abbrev pub break_times : List Piece → ℕ
break_times [] = 0
break_times (piece ∷ string) = cond (is_break piece) 1 0 + break_times string

abbrev pub group_times : ℕ → List Piece → ℕ
group_times number [] = 0
group_times number (piece ∷ string) = cond (is_group number piece) 1 0 + group_times number string

-- of so many groups from one on
abbrev pub times_from : List Piece → ℕ → ℕ → List ℕ
times_from string number zero = []
times_from string number (suc more) = group_times number string ∷ times_from string (number + 1) more

pub record IsTallyOf (string : List Piece) (tally : Tally) : Type 0 where
  pub breaks : tally.breaks ≡ break_times string
  pub groups : tally.groups ≡ times_from string 0 10

-- ---- how many breaks it puts for a match

abbrev pub group_breaks : Text → Match → ℕ → ℕ
group_breaks text m number = breaks (text_of text (group_of m number))

abbrev pub weigh : List ℕ → (ℕ → ℕ) → ℕ → ℕ
weigh [] weight number = 0
weigh (times ∷ more) weight number = times * weight number + weigh more weight (number + 1)

abbrev pub breaks_by : Tally → Text → Match → ℕ
breaks_by tally text m = tally.breaks + weigh tally.groups (group_breaks text m) 0

-- between two places, with the string in place of each match
abbrev pub all_breaks : Tally → Text → Place → List Match → Place → ℕ
all_breaks tally text from [] to = breaks (between text from to)
all_breaks tally text from (m ∷ ms) to =
    (breaks (between text from m.from) + breaks_by tally text m) + all_breaks tally text m.to ms to

-- ---- counts that are refused above the limit

abbrev pub Sums : Result ℕ ExError → ℕ → Type 0
Sums (Ok n) total = (n ≡ total) × (total ≤ 2000000)
Sums (Err e) total = (e ≡ TooManyLines) × (2000000 < total)

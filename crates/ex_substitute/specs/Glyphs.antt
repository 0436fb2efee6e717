-- A text as its characters with a break between lines, and such a run cut into lines.
use Rattle.std.specs.Prelude.{ℕ, suc, zero, ◌-◌, ◌+◌, nat_lt, List, [], ◌∷◌, ◌++◌, map, take, drop, length, if◌then◌else◌}
use Rattle.syn_base.specs.declared.places.Place.{Place}
use Rattle.match_rules.specs.Ways.{Text, line_at}

-- a character, or a break between two lines
pub data Glyph : Type 0 where
  sign : (char : ℕ) → Glyph
  line_break : Glyph

-- there is no break behind the last line
abbrev pub line_end : Text → ℕ → List Glyph
line_end text line = if nat_lt (line + 1) (length text) then line_break ∷ [] else []

-- from a column of a line up to a column of the line that stands so many lines further on
abbrev pub stretch : Text → ℕ → ℕ → ℕ → ℕ → List Glyph
stretch text line col zero to = map sign (take (to - col) (drop col (line_at text line)))
stretch text line col (suc more) to =
    map sign (drop col (line_at text line)) ++ (line_end text line ++ stretch text (line + 1) 0 more to)

-- what stands between two places. The place in the line behind the last is the end of the text
abbrev pub between : Text → Place → Place → List Glyph
between text from to = stretch text from.line from.col (to.line - from.line) to.col

-- ---- lines that are written

-- the lines that are finished, and the one that is written on
pub record Page : Type 0 where
  pub lines : List (List ℕ)
  pub last : List ℕ

abbrev pub blank : Page
blank = record { lines = []; last = [] }

abbrev pub written : Page → List Glyph → Page
written page [] = page
written page (sign c ∷ run) = written (record page { last = page.last ++ c ∷ [] }) run
written page (line_break ∷ run) = written (record { lines = page.lines ++ page.last ∷ []; last = [] }) run

abbrev pub lines_on : Page → List (List ℕ)
lines_on page = page.lines ++ page.last ∷ []

-- the lines of a run, which its breaks part
abbrev pub cut : List Glyph → List (List ℕ)
cut run = lines_on (written blank run)

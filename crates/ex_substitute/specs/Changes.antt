-- What a command makes of a text: the lines that stand in place of some of it, with its limits.
use Rattle.std.specs.Prelude.{ℕ, ◌+◌, ◌-◌, nat_lt, min, Bool, true, false, List, [], ◌∷◌, ◌++◌, length, Result, Ok, Err, if◌then◌else◌}
use Rattle.std.specs.List.{list_any}
use Rattle.syn_base.specs.declared.places.Place.{Place}
use Rattle.match_rules.specs.Ways.{Text, line_at, place}
use Rattle.pattern_match.specs.declared.answer.Match.{Match}
use Rattle.ex_substitute.specs.declared.change.Change.{Change}
use Rattle.ex_substitute.specs.declared.error.ExError.{ExError}
use Rattle.ex_substitute.specs.declared.error.ExError.TheVariants.{NoMatch, TooManyLines, LongLine}
use Rattle.ex_substitute.specs.declared.string.Piece.{Piece}
use Rattle.ex_substitute.specs.Glyphs.{Glyph, between, cut}
use Rattle.ex_substitute.specs.Putting.{put_for}

-- ---- the limits

-- how many lines the text has with the new ones in place of those from `a` up to `b`
abbrev pub lines_after : Text → Change → ℕ
lines_after text c = length text - (c.b - c.a) + length c.new

abbrev pub is_long : List ℕ → Bool
is_long line = nat_lt 1000000 (length line)

abbrev pub within_limits : Text → Change → Result Change ExError
within_limits text c =
    if nat_lt 2000000 (lines_after text c) then Err TooManyLines
    else if list_any is_long c.new then Err LongLine
    else Ok c

-- ---- a substitution

-- from a place up to another, with each match replaced by its string
abbrev pub replaced : Text → List Piece → Place → List Match → Place → List Glyph
replaced text string from [] to = between text from to
replaced text string from (m ∷ ms) to =
    between text from m.from ++ (put_for text string m ++ replaced text string m.to ms to)

abbrev pub last_to : Match → List Match → Place
last_to m [] = m.to
last_to m (k ∷ ms) = last_to k ms

-- one past the line of the last end, and at most one past the last line
abbrev pub line_behind : Text → Match → List Match → ℕ
line_behind text m ms = min ((last_to m ms).line + 1) (length text)

-- the end of the line before one
abbrev pub end_before : Text → ℕ → Place
end_before text b = place (b - 1) (length (line_at text (b - 1)))

-- from the line of the first match up to that of the last one's end
abbrev pub substitution : Text → List Piece → Match → List Match → Change
substitution text string m ms = record {
  a = m.from.line;
  b = line_behind text m ms;
  new = cut (replaced text string (place m.from.line 0) (m ∷ ms) (end_before text (line_behind text m ms)));
  count = length (m ∷ ms);
}

-- matches that are counted alone: an empty range, and nothing new
abbrev pub counting : Match → List Match → Change
counting m ms = record { a = m.from.line; b = m.from.line; new = []; count = length (m ∷ ms) }

abbrev pub change_by : Text → List Piece → Bool → List Match → Result Change ExError
change_by text string count_only [] = Err NoMatch
change_by text string true (m ∷ ms) = Ok (counting m ms)
change_by text string false (m ∷ ms) = within_limits text (substitution text string m ms)

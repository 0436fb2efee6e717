-- How the code puts a run: lines that are being made, and the changes of case that are asked for.
use Rattle.std.specs.Prelude.{◌≡◌, Bool, true, List, [], ◌∷◌, ◌++◌, map, drop, Result, Ok, Err}
use Rattle.std.specs.List.{list_any}
use Rattle.syn_base.specs.declared.places.Place.{Place}
use Rattle.match_rules.specs.Ways.{Text, line_at}
use Rattle.pattern_match.specs.declared.answer.Match.{Match}
use Rattle.ex_substitute.specs.declared.error.ExError.TheVariants.{LongLine}
use Rattle.ex_substitute.specs.declared.pen.Pen.{Pen}
use Rattle.ex_substitute.specs.declared.refusal.Refusal.{Refusal}
use Rattle.ex_substitute.specs.declared.refusal.Refusal.TheVariants.{Cause, Memory}
use Rattle.ex_substitute.specs.declared.string.Piece.{Piece}
use Rattle.ex_substitute.specs.Casings.{changed_by, next_change, used, no_change, asked_by}
use Rattle.ex_substitute.specs.Changes.{is_long}
use Rattle.ex_substitute.specs.Glyphs.{Glyph, sign, line_break, line_end, between, Page, lines_on}
use Rattle.ex_substitute.specs.Putting.{run_of}

abbrev pub page_of : Pen → Page
page_of pen = record { lines = pen.lines; last = pen.last }

-- nothing is made yet
abbrev pub blank_pen : Pen
blank_pen = record { lines = []; last = []; casing = no_change }

-- after a run
abbrev pub drawn : Pen → List Glyph → Pen
drawn pen [] = pen
drawn pen (sign c ∷ run) =
    drawn (record pen { last = pen.last ++ changed_by (next_change pen.casing) c ∷ []; casing = used pen.casing }) run
drawn pen (line_break ∷ run) = drawn (record pen { lines = pen.lines ++ pen.last ∷ []; last = [] }) run

-- after a piece
abbrev pub with_piece : Text → Match → Piece → Pen → Pen
with_piece text m piece pen =
    record (drawn pen (run_of text m piece)) { casing = asked_by piece (drawn pen (run_of text m piece)).casing }

abbrev pub with_pieces : Text → Match → List Piece → Pen → Pen
with_pieces text m [] pen = pen
with_pieces text m (piece ∷ string) pen = with_pieces text m string (with_piece text m piece pen)

-- from a place on up to the end of its line, with the break behind that
abbrev pub rest_of : Text → Place → List Glyph
rest_of text from = map sign (drop from.col (line_at text from.line)) ++ line_end text from.line

-- after what stands before a match from a place on, and the string in place of the match
abbrev pub with_match : Text → List Piece → Place → Match → Pen → Pen
with_match text string at m pen = record (with_pieces text m string (drawn pen (between text at m.from))) { casing = no_change }

-- after what stands between two places, with the string in place of each match
abbrev pub with_all : Text → List Piece → Place → List Match → Place → Pen → Pen
with_all text string from [] to pen = drawn pen (between text from to)
with_all text string from (m ∷ ms) to pen = with_all text string m.to ms to (with_match text string from m pen)

-- a line is too long
abbrev pub is_overfull : Pen → Bool
is_overfull pen = list_any is_long (lines_on (page_of pen))

-- a refusal on the way to `whole` is that of a line that is too long there
abbrev pub Overfills : Refusal → Pen → Type 0
Overfills (Cause e) whole = (e ≡ LongLine) × (is_overfull whole ≡ true)
Overfills Memory whole = Unit {0}

-- the pen comes to `whole`, or that has a line that is too long
abbrev pub Draws : {A : Type 0} → Result A Refusal → Pen → Pen → Type 0
Draws (Ok _) now whole = now ≡ whole
Draws (Err e) now whole = Overfills e whole

-- the same of a pen that is answered
abbrev pub Makes : Result Pen Refusal → Pen → Type 0
Makes (Ok pen) whole = pen ≡ whole
Makes (Err e) whole = Overfills e whole

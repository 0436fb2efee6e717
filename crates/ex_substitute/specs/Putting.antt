-- What is put for a match: the pieces of the string, one behind the other.
use Rattle.std.specs.Prelude.{ℕ, zero, suc, nat_lt, List, [], ◌∷◌, ◌++◌, Some, None, get_or, if◌then◌else◌}
use Rattle.match_rules.specs.Ways.{Text, Capture}
use Rattle.pattern_match.specs.declared.answer.Match.{Match}
use Rattle.ex_substitute.specs.declared.string.Piece.{Piece}
use Rattle.ex_substitute.specs.declared.string.Piece.TheVariants.{Char, Break, Group}
use Rattle.ex_substitute.specs.declared.casing.Casing.{Casing}
use Rattle.ex_substitute.specs.Glyphs.{Glyph, sign, line_break, between}
use Rattle.ex_substitute.specs.Casings.{no_change, cased, casing_after, asked_by}

-- the places of a group: 0 is the whole match, and there are nine others
abbrev pub group_of : Match → ℕ → Capture
group_of m zero = Some (m.from, m.to)
group_of m (suc i) = if nat_lt i 9 then get_or m.caps i None else None

-- a group that hasn't matched is empty
abbrev pub text_of : Text → Capture → List Glyph
text_of text None = []
text_of text (Some places) = between text places.0 places.1

-- what a piece puts, before its case is changed
abbrev pub run_of : Text → Match → Piece → List Glyph
run_of text m (Char c) = sign c ∷ []
run_of text m Break = line_break ∷ []
run_of text m (Group number) = text_of text (group_of m number)
run_of text m _ = []

abbrev pub put_from : Text → Match → Casing → List Piece → List Glyph
put_from text m casing [] = []
put_from text m casing (piece ∷ string) =
    cased casing (run_of text m piece)
    ++ put_from text m (asked_by piece (casing_after casing (run_of text m piece))) string

-- the string of a match
abbrev pub put_for : Text → List Piece → Match → List Glyph
put_for text string m = put_from text m no_change string

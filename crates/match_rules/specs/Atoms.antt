-- Where an atom leads from a place, if it fits there, and the lines that it looks at (Vim's help,
-- pattern-atoms and /ordinary-atom).
use Rattle.std.specs.Prelude.{ℕ, zero, suc, pos, ◌-ℤ◌, ◌+◌, ◌-◌, Bool, true, false, not, ◌&&◌, nat_lt, nat_eq, List, [], ◌∷◌, ◌++◌, Option, Some, None, length, drop, take, map, slice_get, get_or, if◌then◌else◌}
use Rattle.char_class.specs.Classes.{class_holds}
use Rattle.char_class.specs.Folds.{is_same}
use Rattle.char_class.specs.declared.sets.Sets.{Sets}
use Rattle.syn_base.specs.declared.class.Class.TheVariants.{Keyword}
use Rattle.syn_base.specs.declared.looked.Looked.{Looked}
use Rattle.syn_base.specs.declared.places.Place.{Place}
use Rattle.syn_base.specs.Looked.{one_line, hull_of, numbered_too}
use Rattle.pattern_items.specs.declared.atom.Atom.{Atom}
use Rattle.pattern_items.specs.declared.atom.Atom.TheVariants.{Char, Any, Is, Set, LineEnd, LineStart, LineStop, WordStart, WordStop, FileStart, FileStop, MatchStart, MatchStop, LineNumber, Ref, ExternalRef}
use Rattle.pattern_items.specs.declared.atom.Compare.{Compare}
use Rattle.pattern_items.specs.declared.atom.Compare.TheVariants.{At, Before, After}
use Rattle.match_rules.specs.Ways.{Text, Context, Capture, Way, capture_of, line_at, behind_character, behind_line_end}
use Rattle.match_rules.specs.Collections.{collection_holds}

-- ---- what stands at a place

-- the character there; at a line's end, and in the line behind the last, there is none
abbrev pub character_at : Text → Place → Option ℕ
character_at text p = slice_get (line_at text p.line) p.col

-- the end of a line that is there
abbrev pub is_line_end : Text → Place → Bool
is_line_end text p = nat_lt p.line (length text) && nat_eq p.col (length (line_at text p.line))

abbrev pub only_if : Bool → Place → Option Place
only_if true p = Some p
only_if false p = None

abbrev pub behind_if : (ℕ → Bool) → Option ℕ → Place → Option Place
behind_if test None p = None
behind_if test (Some c) p = only_if (test c) (behind_character p)

-- the place behind a character that passes the test
abbrev pub behind_one : Text → (ℕ → Bool) → Place → Option Place
behind_one text test p = behind_if test (character_at text p) p

-- the same, or behind the line end where that is taken too
abbrev pub behind_one_or_end : Text → Bool → (ℕ → Bool) → Place → Option Place
behind_one_or_end text takes_end test p =
    if takes_end && is_line_end text p then Some (behind_line_end p) else behind_one text test p

-- ---- the text of a group

-- a text between two places is characters and line ends
pub data Piece : Type 0 where
  character : (c : ℕ) → Piece
  line_end : Piece

abbrev pub characters : List ℕ → List Piece
characters cs = map character cs

-- from a column of a line on, over so many line ends, up to a column
abbrev pub pieces_over : Text → ℕ → ℕ → ℕ → ℕ → List Piece
pieces_over text line col zero stop = characters (take (stop - col) (drop col (line_at text line)))
pieces_over text line col (suc ends) stop =
    characters (drop col (line_at text line)) ++ line_end ∷ pieces_over text (line + 1) 0 ends stop

abbrev pub text_between : Text → Place → Place → List Piece
text_between text from to = pieces_over text from.line from.col (to.line - from.line) to.col

abbrev pub captured_text : Text → Capture → List Piece
captured_text text None = []
captured_text text (Some places) = text_between text places.0 places.1

-- the place behind one piece, if it stands here
abbrev pub behind_piece : Context → Piece → Place → Option Place
behind_piece x (character c) p = behind_one x.text (λ d. is_same c d x.ignore) p
behind_piece x line_end p = only_if (is_line_end x.text p) (behind_line_end p)

-- the place behind all of them
abbrev pub behind_pieces : Context → List Piece → Place → Option Place
behind_pieces x [] p = Some p
behind_pieces x (piece ∷ pieces) p =
    elim (behind_piece x piece p) [ None ↦ None | Some q ↦ behind_pieces x pieces q ]

-- the line in which they end, or fail to stand
abbrev pub last_line_of : Context → List Piece → Place → ℕ
last_line_of x [] p = p.line
last_line_of x (piece ∷ pieces) p =
    elim (behind_piece x piece p) [ None ↦ p.line | Some q ↦ last_line_of x pieces q ]

-- the text that a reference stands for: empty where the group hasn't matched
abbrev pub group_text : Context → Way → ℕ → List Piece
group_text x w number = captured_text x.text (capture_of w.captures number)

abbrev pub external_text : Context → ℕ → List Piece
external_text x number = characters (get_or x.externals (number - 1) [])

-- ---- words

abbrev pub has_keyword : Sets → Option ℕ → Bool
has_keyword sets None = false
has_keyword sets (Some c) = class_holds Keyword c sets

abbrev pub keyword_at : Context → Place → Bool
keyword_at x p = has_keyword x.sets (character_at x.text p)

abbrev pub keyword_in : Sets → List ℕ → ℕ → Bool
keyword_in sets line zero = false
keyword_in sets line (suc col) = has_keyword sets (slice_get line col)

abbrev pub keyword_before : Context → Place → Bool
keyword_before x p = keyword_in x.sets (line_at x.text p.line) p.col

-- ---- line numbers

-- how a line's number stands to the one that the pattern names
abbrev pub stands : Compare → ℕ → ℕ → Bool
stands At number line_number = nat_eq line_number number
stands Before number line_number = nat_lt line_number number
stands After number line_number = nat_lt number line_number

-- lines count from 1 here
abbrev pub number_of_line : ℕ → ℕ
number_of_line line = line + 1

-- ---- where an atom leads

abbrev pub turned_round : Bool → Bool → Bool
turned_round negative holds = if negative then not holds else holds

abbrev pub fits : Context → Way → Atom → Option Place
fits x w (Char c) = behind_one x.text (λ d. is_same c d x.ignore) w.at
fits x w (Any takes_end) = behind_one_or_end x.text takes_end (λ c. true) w.at
fits x w (Is class negative takes_end) =
    behind_one_or_end x.text takes_end (λ c. turned_round negative (class_holds class c x.sets))
    w.at
fits x w (Set ranges) = behind_one_or_end x.text ranges.line_end
    (λ c. collection_holds ranges c x.sets x.ignore) w.at
fits x w LineEnd = only_if (is_line_end x.text w.at) (behind_line_end w.at)
fits x w LineStart = only_if (nat_eq w.at.col 0) w.at
fits x w LineStop = only_if (nat_eq w.at.col (length (line_at x.text w.at.line))) w.at
fits x w WordStart = only_if (keyword_at x w.at && not (keyword_before x w.at)) w.at
fits x w WordStop = only_if (keyword_before x w.at && not (keyword_at x w.at)) w.at
fits x w FileStart = only_if (nat_eq w.at.line 0 && nat_eq w.at.col 0) w.at
fits x w FileStop =
    only_if (nat_eq (w.at.line + 1) (length x.text)
    && nat_eq w.at.col (length (line_at x.text w.at.line))) w.at
fits x w MatchStart = Some w.at
fits x w MatchStop = Some w.at
fits x w (LineNumber how number) = only_if (stands how number (number_of_line w.at.line)) w.at
fits x w (Ref number) = behind_pieces x (group_text x w number) w.at
fits x w (ExternalRef number) = behind_pieces x (external_text x number) w.at

-- ---- the lines that an atom looks at

abbrev pub own_line : Way → Looked
own_line w = one_line (pos w.at.line)

abbrev pub lines_from : ℕ → ℕ → Looked
lines_from low high = hull_of (one_line (pos low)) (one_line (pos high))

-- the line behind a line that is there; behind the last one nothing is looked at
abbrev pub line_behind : Text → ℕ → ℕ
line_behind text l = if nat_lt l (length text) then l + 1 else l

-- its own line; the file's start looks at the line before too, the file's stop at the one behind, and
-- a reference at the lines up to the one in which its text ends or fails to stand. A line number alone
-- looks at its line's number too
abbrev pub lines_looked : Context → Way → Atom → Looked
lines_looked x w FileStart = hull_of (own_line w) (one_line (pos w.at.line -ℤ pos 1))
lines_looked x w FileStop = lines_from w.at.line (line_behind x.text w.at.line)
lines_looked x w (Ref number) = lines_from w.at.line (last_line_of x (group_text x w number) w.at)
lines_looked x w (ExternalRef number) = lines_from w.at.line
    (last_line_of x (external_text x number) w.at)
lines_looked x w (Char c) = own_line w
lines_looked x w (Any takes_end) = own_line w
lines_looked x w (Is class negative takes_end) = own_line w
lines_looked x w (Set ranges) = own_line w
lines_looked x w LineEnd = own_line w
lines_looked x w LineStart = own_line w
lines_looked x w LineStop = own_line w
lines_looked x w WordStart = own_line w
lines_looked x w WordStop = own_line w
lines_looked x w MatchStart = own_line w
lines_looked x w MatchStop = own_line w
lines_looked x w (LineNumber how number) = numbered_too (own_line w)

-- ---- the way behind an atom that fits

abbrev pub way_behind : Way → Place → Atom → Way
way_behind w p MatchStart = record w { start = Some w.at }
way_behind w p MatchStop = record w { stop = Some w.at }
way_behind w p _ = record w { at = p }

-- Lines of spelled commands, and files of them, read back.
use Rattle.std.proofs.Common.{◌≡◌, ℕ, suc, Bool, true, false, List, [], ◌∷◌, ◌++◌, map, refl, ap, sym, ◌∙◌, append_assoc}
use Rattle.std.specs.Prelude.{Some, None, Ok, nat_eq, nat_lt, not, ◌&&◌, if◌then◌else◌}
use Rattle.std.specs.Str.{IsAscii, chars, is_utf8}
use Rattle.std.proofs.lemmas.List.{append-nil}
use Rattle.std.proofs.lemmas.Str.{IsUtf8-from_ascii, chars-IsAscii, is_utf8-from_IsUtf8}
use Rattle.std.proofs.lemmas.Str.Ascii.{IsAscii-cons, IsAscii-nil}
use Rattle.std.proofs.lemmas.Bool.{ltb-true}
use Rattle.text_buffer.specs.TextOfBytes.{byte_lines, lines_of_pieces, longer_first, pieces_of, without_empty_last}
use Rattle.text_scan.specs.Characters.{past_blanks}
use Rattle.syn_lines.specs.Continuation.{Continues, PhysicalLine, Remark, Starts, kind_of}
use Rattle.syn_lines.specs.declared.line.LogicalLine.{LogicalLine}
use Rattle.syn_lines.specs.declared.line.LogicalLines.{LogicalLines}
use Rattle.syn_lines.specs.declared.line.LogicalLines.TheVariants.{Lines}
use Rattle.syn_lines.specs.LogicalLines.{appended, first_bad, joined_lines, lines_from, lines_unless, logical, logical_lines_of}
use Rattle.syn_words.specs.declared.file.Guard.TheVariants.{Outside}
use Rattle.syn_words.specs.declared.file.Progress.{Progress}
use Rattle.syn_words.specs.declared.first_words.Said.{Said}
use Rattle.syn_words.specs.declared.first_words.Said.TheVariants.{Does}
use Rattle.syn_words.specs.declared.what.Command.{Command}
use Rattle.syn_words.specs.declared.what.Commands.{Commands}
use Rattle.syn_words.specs.declared.what.ItemCommand.TheVariants.{Keyword, Match, Region}
use Rattle.syn_words.specs.declared.what.What.{What}
use Rattle.syn_words.specs.declared.what.What.TheVariants as what
use Rattle.syn_words.specs.Answers.{Read}
use Rattle.syn_words.specs.Commands.{command}
use Rattle.syn_words.specs.FileCommands.{by_said, commands_in, commands_of, line_after, line_is_over, lines_after, read_one, whole}
use Rattle.syn_words.specs.Spelled.{ArePlain, IsPlain, begins_word, file_text, is_line, numbered, what_text}
use Rattle.syn_words.proofs.SpelledCommands.{command_read}
use Rattle.syn_words.proofs.SpelledWords.{no_bar, no_blank, no_quote}
use Rattle.syn_words.proofs.WordLaws.{and_left, and_right, not_true}

-- A line.

abbrev so_far : List Command → Progress
so_far list = record { list = list; guard = Outside; fault = None }

abbrev more : List Command → ℕ → What → List Command
more list number w = list ++ record { line = number; what = w } ∷ []

nothing_left : (p : Progress) (number : ℕ) (turns : List ℕ) → line_after p number turns [] ≡ p
nothing_left p number [] = refl
nothing_left p number (t ∷ turns) = refl

abbrev turn : List Command → ℕ → List ℕ → List ℕ → Progress
turn list number turns text = if line_is_over text then so_far list else line_after (read_one (so_far list) number text).0 number turns (read_one (so_far list) number text).1

first_blank : (c : ℕ) (cs : List ℕ) → begins_word (c ∷ cs) ≡ true → past_blanks (c ∷ cs) ≡ c ∷ cs
first_blank c cs is = let blank = no_blank c cs is in rw blank refl

abbrev read_so : List Command → ℕ → List ℕ → Read Said → Progress
read_so list number turns r = line_after (by_said (so_far list) number r).0 number turns (by_said (so_far list) number r).1

turn_at : (list : List Command) (number c : ℕ) (cs turns : List ℕ) → nat_eq c 34 ≡ false
    → nat_eq c 124 ≡ false
    → turn list number turns (c ∷ cs) ≡ read_so list number turns (command (c ∷ cs))
turn_at list number c cs turns quote bar = rw (quote, bar) refl

line_read : (list : List Command) (number : ℕ) (text : List ℕ) (w : What) → begins_word text ≡ true
    → command text ≡ Ok (Does w, [])
    → line_after (so_far list) number text text ≡ so_far (more list number w)
line_read list number [] w begin is = absurd cc
line_read list number (c ∷ cs) w begin is =
    ap (turn list number cs) (first_blank c cs begin)
    ∙ turn_at list number c cs cs (no_quote c cs begin) (no_bar c cs begin)
    ∙ ap (read_so list number cs) is
    ∙ nothing_left (so_far (more list number w)) number cs

what_begins : (w : What) → IsPlain w → begins_word (what_text w) ≡ true
what_begins what.Nothing plain = absurd plain
what_begins (what.Runtime name) plain = absurd plain
what_begins (what.CaseIgnore true) plain = refl
what_begins (what.CaseIgnore false) plain = refl
what_begins (what.Iskeyword None) plain = refl
what_begins (what.Iskeyword (Some value)) plain = refl
what_begins (what.Item Keyword group ps) plain = refl
what_begins (what.Item Match group ps) plain = refl
what_begins (what.Item Region group ps) plain = refl
what_begins (what.Cluster name changes) plain = absurd plain
what_begins (what.Include cluster name) plain = absurd plain
what_begins (what.Sync fromstart) plain = refl
what_begins what.ClearAll plain = refl
what_begins (what.Clear names) plain = refl
what_begins (what.Link from to unset true) plain = refl
what_begins (what.Link from to unset false) plain = refl
what_begins (what.Style group parts unset) plain = absurd plain

-- Lines.

abbrev line_of : ℕ → What → LogicalLine
line_of number w = record { number = number; text = what_text w }

abbrev lines_of : ℕ → List What → List LogicalLine
lines_of number [] = []
lines_of number (w ∷ ws) = line_of number w ∷ lines_of (suc number) ws

lines_read : (ws : List What) (list : List Command) (number : ℕ) → ArePlain ws
    → lines_after (so_far list) (lines_of number ws) ≡ so_far (list ++ numbered number ws)
lines_read [] list number plain = ap so_far (sym (append-nil list))
lines_read (w ∷ ws) list number plain =
    ap (λ p. lines_after p (lines_of (suc number) ws)) (line_read list number (what_text w) w (what_begins w plain.0) (command_read w plain.0))
    ∙ lines_read ws (more list number w) (suc number) plain.2
    ∙ ap so_far (append_assoc list (record { line = number; what = w } ∷ []) (numbered (suc number) ws))

-- Bytes.

abbrev is_line_character : ℕ → Bool
is_line_character c = nat_lt c 128 && not (nat_eq c 10)

line_ascii : (text : List ℕ) → is_line text ≡ true → IsAscii text
line_ascii [] is = IsAscii-nil
line_ascii (c ∷ cs) is =
    let here = and_left (is_line_character c) (is_line cs) is in
    IsAscii-cons c cs (ltb-true c 128 (and_left (nat_lt c 128) (not (nat_eq c 10)) here)) (line_ascii cs (and_right (is_line_character c) (is_line cs) is))

line_broken : (text rest : List ℕ) → is_line text ≡ true
    → pieces_of (text ++ 10 ∷ rest) ≡ text ∷ pieces_of rest
line_broken [] rest is = refl
line_broken (c ∷ cs) rest is =
    let unbroken = not_true (nat_eq c 10) (and_right (nat_lt c 128) (not (nat_eq c 10)) (and_left (is_line_character c) (is_line cs) is)) in
    let later = line_broken cs rest (and_right (is_line_character c) (is_line cs) is) in
    rw unbroken (ap (longer_first c) later)

abbrev texts_of : List What → List (List ℕ)
texts_of [] = []
texts_of (w ∷ ws) = what_text w ∷ texts_of ws

file_pieces : (ws : List What) → ArePlain ws → pieces_of (file_text ws) ≡ texts_of ws ++ [] ∷ []
file_pieces [] plain = refl
file_pieces (w ∷ ws) plain =
    line_broken (what_text w) (file_text ws) plain.1 ∙ ap (λ ps. what_text w ∷ ps) (file_pieces ws plain.2)

without_last : (lines : List (List ℕ)) → without_empty_last (lines ++ [] ∷ []) ≡ lines
without_last [] = refl
without_last (line ∷ []) = by_first line
  where
    by_first : (line : List ℕ) → without_empty_last (line ∷ [] ∷ []) ≡ line ∷ []
    by_first [] = refl
    by_first (c ∷ cs) = refl
without_last (line ∷ next ∷ lines) = by_first line (without_last (next ∷ lines))
  where
    by_first : (line : List ℕ) → without_empty_last (next ∷ (lines ++ [] ∷ [])) ≡ next ∷ lines
        → without_empty_last (line ∷ next ∷ (lines ++ [] ∷ [])) ≡ line ∷ next ∷ lines
    by_first [] rest = ap (λ ls. [] ∷ ls) rest
    by_first (c ∷ cs) rest = ap (λ ls. (c ∷ cs) ∷ ls) rest

file_lines : (w : What) (ws : List What) → ArePlain (w ∷ ws)
    → byte_lines (file_text (w ∷ ws)) ≡ texts_of (w ∷ ws)
file_lines w ws plain =
    ap lines_of_pieces (file_pieces (w ∷ ws) plain) ∙ ap (λ ls. what_text w ∷ ls) (without_last (texts_of ws))

all_good : (ws : List What) (number : ℕ) → ArePlain ws → first_bad number (texts_of ws) ≡ None
all_good [] number plain = refl
all_good (w ∷ ws) number plain =
    let good = is_utf8-from_IsUtf8 (what_text w) (IsUtf8-from_ascii (what_text w) (line_ascii (what_text w) plain.1)) in
    rw good (all_good ws (suc number) plain.2)

same_chars : (ws : List What) → ArePlain ws → map chars (texts_of ws) ≡ texts_of ws
same_chars [] plain = refl
same_chars (w ∷ ws) plain =
    ap (λ text. text ∷ map chars (texts_of ws)) (chars-IsAscii (what_text w) (line_ascii (what_text w) plain.1))
    ∙ ap (λ texts. what_text w ∷ texts) (same_chars ws plain.2)

what_starts : (w : What) → IsPlain w → kind_of (what_text w) ≡ Starts
what_starts what.Nothing plain = absurd plain
what_starts (what.Runtime name) plain = absurd plain
what_starts (what.CaseIgnore true) plain = refl
what_starts (what.CaseIgnore false) plain = refl
what_starts (what.Iskeyword None) plain = refl
what_starts (what.Iskeyword (Some value)) plain = refl
what_starts (what.Item Keyword group ps) plain = refl
what_starts (what.Item Match group ps) plain = refl
what_starts (what.Item Region group ps) plain = refl
what_starts (what.Cluster name changes) plain = absurd plain
what_starts (what.Include cluster name) plain = absurd plain
what_starts (what.Sync fromstart) plain = refl
what_starts what.ClearAll plain = refl
what_starts (what.Clear names) plain = refl
what_starts (what.Link from to unset true) plain = refl
what_starts (what.Link from to unset false) plain = refl
what_starts (what.Style group parts unset) plain = absurd plain

abbrev line_with : ℕ → List ℕ → LogicalLine
line_with number text = record { number = number; text = text }

abbrev appended_by : List (List ℕ) → PhysicalLine → List ℕ
appended_by lines kind = elim kind [ Continues rest ↦ rest ++ appended lines | Remark ↦ appended lines | Starts ↦ [] ]

abbrev from_by : ℕ → List ℕ → List (List ℕ) → PhysicalLine → List LogicalLine
from_by number line lines kind =
    elim kind [ Starts ↦ logical number line lines ∷ lines_from (suc number) lines | Continues rest ↦ lines_from (suc number) lines | Remark ↦ lines_from (suc number) lines ]

-- a line that another one follows, or none, is as it stands
nothing_appended : (ws : List What) → ArePlain ws → appended (texts_of ws) ≡ []
nothing_appended [] plain = refl
nothing_appended (w ∷ ws) plain = ap (appended_by (texts_of ws)) (what_starts w plain.0)

from_line : (number : ℕ) (w : What) (ws : List What) → ArePlain (w ∷ ws)
    → logical number (what_text w) (texts_of ws) ≡ line_of number w
from_line number w ws plain =
    ap (λ rest. line_with number (what_text w ++ rest)) (nothing_appended ws plain.2)
    ∙ ap (line_with number) (append-nil (what_text w))

lines_after_first : (ws : List What) (number : ℕ) → ArePlain ws
    → lines_from number (texts_of ws) ≡ lines_of number ws
lines_after_first [] number plain = refl
lines_after_first (w ∷ ws) number plain =
    ap (from_by number (what_text w) (texts_of ws)) (what_starts w plain.0)
    ∙ ap (λ line. line ∷ lines_from (suc number) (texts_of ws)) (from_line number w ws plain)
    ∙ ap (λ lines. line_of number w ∷ lines) (lines_after_first ws (suc number) plain.2)

lines_joined : (w : What) (ws : List What) → ArePlain (w ∷ ws)
    → joined_lines (texts_of (w ∷ ws)) ≡ lines_of 1 (w ∷ ws)
lines_joined w ws plain =
    ap (λ line. line ∷ lines_from 2 (texts_of ws)) (from_line 1 w ws plain)
    ∙ ap (λ lines. line_of 1 w ∷ lines) (lines_after_first ws 2 plain.2)

abbrev read_lines : List LogicalLine → LogicalLines
read_lines lines = Lines lines

file_is : (w : What) (ws : List What) → ArePlain (w ∷ ws)
    → logical_lines_of (file_text (w ∷ ws)) ≡ Lines (lines_of 1 (w ∷ ws))
file_is w ws plain =
    ap (λ lines. lines_unless (first_bad 1 lines) lines) (file_lines w ws plain)
    ∙ ap (λ bad. lines_unless bad (texts_of (w ∷ ws))) (all_good (w ∷ ws) 1 plain)
    ∙ ap (λ lines. read_lines (joined_lines lines)) (same_chars (w ∷ ws) plain)
    ∙ ap read_lines (lines_joined w ws plain)

abbrev all_of : List Command → Commands
all_of list = record { list = list; fault = None }

-- no bytes at all are one empty line
no_commands : commands_of [] ≡ all_of []
unfolding chars is_utf8
no_commands = refl

pub file_read : (ws : List What) → ArePlain ws → commands_of (file_text ws) ≡ record { list = numbered 1 ws; fault = None }
file_read [] plain = no_commands
file_read (w ∷ ws) plain =
    ap commands_in (file_is w ws plain) ∙ ap whole (lines_read (w ∷ ws) [] 1 plain)

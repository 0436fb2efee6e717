-- The session of the large mode: a generated text, and drawn edits on it one after the other. The text is
-- painted anew, from its first line on, at each edit.
use Rattle.std.specs.Prelude.{ℕ, suc, zero, ◌+◌, ◌/◌, nat_lt, Bool, List, ◌++◌, length, codes, decimal, Result, Ok, Err}
use Rattle.std.specs.List.{sum_by}
use Rattle.syn_base.specs.declared.places.Span.{Span}
use Rattle.edit_script.specs.Edits.{Replacement, replaced}
use Rattle.edit_session.specs.Painter.{Painter, Painted, told_lines}
use Rattle.large_session.specs.GeneratedText.{generated_lines}
use Rattle.large_session.specs.DrawnEdits.{drawn_edit}

-- the text of so many lines that a seed gives, and the number with which the draws of edits begin
abbrev pub large_text : ℕ → ℕ → List (List ℕ)
large_text seed lines = (generated_lines lines seed).value

abbrev pub number_behind : ℕ → ℕ → ℕ
number_behind seed lines = (generated_lines lines seed).next

-- how many edits there are on a text that began with so many lines
abbrev pub edit_count : ℕ → ℕ
edit_count lines = lines / 100 + 1

-- what stands behind some edits: the painted text, how many edits were carried out and how many refused,
-- and how many lines their reports told
pub record Standing : Type 0 where
  pub painted : Painted
  pub edits : ℕ
  pub refused : ℕ
  pub repainted : ℕ

-- before the first edit
abbrev pub start : Painted → Standing
start painted = record { painted = painted; edits = 0; refused = 0; repainted = 0 }

-- an edit is carried out, or it is refused and changes nothing
abbrev pub with_painting : Painter → Standing → Replacement → Result (List (List Span)) (List ℕ) → Standing
with_painting p s r (Ok spans) = record {
  painted = record { text = replaced s.painted.text r; spans = spans };
  edits = s.edits + 1;
  refused = s.refused;
  repainted = s.repainted + length (told_lines p s.painted.spans spans r);
}
with_painting p s r (Err cause) = record {
  painted = s.painted;
  edits = s.edits;
  refused = s.refused + 1;
  repainted = s.repainted;
}

-- the changed text is painted anew
abbrev pub edited : Painter → Standing → Replacement → Standing
edited p s r = with_painting p s r (p.paint (replaced s.painted.text r))

-- so many drawn edits, each on the text that the one before it left
abbrev pub edited_often : Painter → ℕ → Standing → ℕ → Standing
edited_often p zero s x = s
edited_often p (suc count) s x =
    let edit = drawn_edit (length s.painted.text) x in
    edited_often p count (edited p s edit.value) edit.next

-- how many lines these edits may paint, at most: each of them on the text as it is then, a refused one too
abbrev pub lines_of_edits : Painter → ℕ → Standing → ℕ → ℕ
lines_of_edits p zero s x = 0
lines_of_edits p (suc count) s x =
    let edit = drawn_edit (length s.painted.text) x in
    p.costs s.painted.text edit.value + lines_of_edits p count (edited p s edit.value) edit.next

-- the session on the painted text of this seed and of so many lines
abbrev pub large_session : Painter → Painted → ℕ → ℕ → Standing
large_session p painted seed lines =
    edited_often p (edit_count lines) (start painted) (number_behind seed lines)

-- ---- what is told of it

-- a word, a space and a number
abbrev pub count_line : List ℕ → ℕ → List ℕ
count_line word number = word ++ codes " " ++ decimal number ++ codes "\n"

-- the lines and spans at the end, the edits carried out and refused, and the lines that their reports told
abbrev pub five_lines : Standing → List ℕ
five_lines s =
    count_line (codes "lines") (length s.painted.text)
    ++ count_line (codes "spans") (sum_by length s.painted.spans)
    ++ count_line (codes "edits") s.edits
    ++ count_line (codes "refused") s.refused
    ++ count_line (codes "repainted") s.repainted

-- whether an edit was refused
abbrev pub has_refused : Standing → Bool
has_refused s = nat_lt 0 s.refused

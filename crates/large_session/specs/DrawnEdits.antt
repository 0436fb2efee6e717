-- The edits of the large mode, on a text of so many lines. First the kind is drawn, then the line, then
-- the words of a generated line. Lines are counted from 0.
use Rattle.std.specs.Prelude.{ℕ, ◌+◌, ◌==◌, nat_lt, [], ◌∷◌, if◌then◌else◌}
use Rattle.edit_script.specs.Edits.{Replacement, lines_become}
use Rattle.large_session.specs.Draws.{Drawn, draw}
use Rattle.large_session.specs.GeneratedText.{generated_line}

-- a line becomes a generated one
abbrev pub drawn_change : ℕ → ℕ → Drawn Replacement
drawn_change count x =
    let at = draw count x in
    let line = generated_line at.next in
    record { value = lines_become at.value (at.value + 1) (line.value ∷ []); next = line.next }

-- a generated line is added before the first line, or behind one
abbrev pub drawn_addition : ℕ → ℕ → Drawn Replacement
drawn_addition count x =
    let at = draw (count + 1) x in
    let line = generated_line at.next in
    record { value = lines_become at.value at.value (line.value ∷ []); next = line.next }

-- a line is deleted; in place of the only one comes an empty line
abbrev pub drawn_deletion : ℕ → ℕ → Drawn Replacement
drawn_deletion count x =
    let at = draw count x in
    record {
      value = lines_become at.value (at.value + 1) (if count == 1 then [] ∷ [] else []);
      next = at.next;
    }

-- kinds 0 and 1 change a line, kind 2 adds one, kind 3 deletes one
abbrev pub edit_of_kind : ℕ → ℕ → ℕ → Drawn Replacement
edit_of_kind kind count x =
    if nat_lt kind 2 then drawn_change count x
    else if kind == 2 then drawn_addition count x
    else drawn_deletion count x

abbrev pub drawn_edit : ℕ → ℕ → Drawn Replacement
drawn_edit count x = let kind = draw 4 x in edit_of_kind kind.value count kind.next

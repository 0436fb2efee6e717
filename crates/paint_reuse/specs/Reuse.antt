-- Which lines of a changed text keep the painting that they had in the old one, and how many are to
-- be painted.
use Rattle.std.specs.Prelude.{ℕ, suc, ◌+◌, ◌==◌, pos, int_lt, int_le, ◌&&◌, ◌||◌, Bool, true, false, not}
use Rattle.std.specs.Prelude.{List, [], ◌∷◌, length, Option, Some, None, slice_get}
use Rattle.syn_base.specs.declared.looked.Looked.{Looked}
use Rattle.match_rules.specs.Ways.{Text}
use Rattle.paint_rules.specs.Line.{Note, Painting, Whole, Fails, painted_line, painting}
use Rattle.paint_rules.specs.Painted.{Done, Refused}
use Rattle.paint_rules.specs.Rules.{Rules}
use Rattle.paint_rules.specs.States.{State, empty_state, next_line}
use Rattle.paint_shift.specs.Elsewhere.{line_in}
use Rattle.paint_reuse.specs.declared.change.Change.{Change}
use Rattle.paint_reuse.specs.Change.{old_line, replaced}
use Rattle.paint_reuse.specs.SameState.{same_state}

-- all lines that were looked at lie before the replaced ones, or all lie behind them
abbrev pub is_clear : Change → Option Looked → Bool
is_clear change None = true
is_clear change (Some looked) = int_lt looked.high (pos change.a) || int_le (pos change.b) looked.low

-- line j of the old text, which is line k of the changed one, has the same number in both, if its
-- painting looked at a line's number
abbrev pub keeps_number : ℕ → ℕ → Option Looked → Bool
keeps_number j k None = true
keeps_number j k (Some looked) = not looked.numbered || (j == k)

-- line j of the old text was painted so that it may stay as it was as line k of the changed one, where
-- this state stands before it
abbrev pub may_stay : Change → ℕ → ℕ → State → Option Note → Bool
may_stay change j k state None = false
may_stay change j k state (Some note) =
    is_clear change note.looked && keeps_number j k note.looked && same_state note.before state

-- the same of the old line that it was; a new line was none
abbrev pub stays_as : List Note → Change → ℕ → State → Option ℕ → Bool
stays_as old change k state None = false
stays_as old change k state (Some j) = may_stay change j k state (slice_get old j)

-- Line k of the changed text, before which this state stands, is reusable: it is a line of the old
-- text, whose painting looked at nothing that was replaced, nor at a line's number if it moved, and
-- before which the same state stood.
unfoldable pub is_reusable : List Note → Change → ℕ → State → Bool
is_reusable old change k state = stays_as old change k state (old_line change k)

abbrev pub one_unless : Bool → ℕ
one_unless true = 0
one_unless false = 1

-- Of these lines of a changed text, from line k on: how many the painting reaches that aren't
-- reusable. A refused line is reached, and none behind it.
abbrev pub to_paint_from : Rules → Text → List Note → Change → ℕ → List (List ℕ) → State → ℕ
to_paint_from r t old change k [] state = 0
to_paint_from r t old change k (x ∷ lines) state =
    one_unless (is_reusable old change k state)
    + elim (painted_line (line_in r t k) state) [
      | Refused refusal looked ↦ 0
      | Done p looked ↦ to_paint_from r t old change (suc k) lines (next_line p.after)
    ]

-- the notes of a painting; one that is refused has none to keep
abbrev pub notes_in : Painting → List Note
notes_in (Whole notes) = notes
notes_in (Fails l refusal) = []

abbrev pub changed_lines : Rules → Text → Text → Change → ℕ
changed_lines r old new change =
    to_paint_from r new (notes_in (painting r old)) change 0 new empty_state

-- The lines to paint where lines a to b - 1 of a text become these: how many lines of the changed
-- text its painting reaches that aren't reusable.
unfoldable pub lines_to_paint : Rules → Text → ℕ → ℕ → List (List ℕ) → ℕ
lines_to_paint r t a b new =
    changed_lines r t (replaced t a b new) (record { a = a; b = b; count = length new })

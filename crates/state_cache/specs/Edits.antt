-- An edit: the changed text, what is known of the old one, and what the walk over its lines makes.
use Rattle.std.specs.Prelude.{◌≡◌, ◌+◌, ◌-◌, ◌≤◌, ℕ, List, [], ◌∷◌, drop, length, set, slice_get, take, Option, Some, None, Ok, IfSome}
use Rattle.std.specs.List.{All}
use Rattle.std.specs.Option.{option_map}
use Rattle.match_rules.specs.Ways.{Text}
use Rattle.paint_rules.specs.Rules.{Rules}
use Rattle.paint_rules.specs.States as rule
use Rattle.paint_rules.specs.States.{StateFits, empty_state}
use Rattle.paint_reuse.specs.declared.change.Change.{Change}
use Rattle.paint_reuse.specs.Change.{replaced}
use Rattle.paint_reuse.specs.Kept.{KeptNote, line_note, notes_from, text_notes}
use Rattle.paint_reuse.specs.Report.{report}
use Rattle.paint_reuse.specs.Reuse.{to_paint_from}
use Rattle.paint_reuse.specs.Work.{Along, Work, before_at, kept_spans, put_in, state_by, work}
use Rattle.state_stack.specs.declared.state.State.{State}
use Rattle.state_stack.specs.TopFirst.{top_first}
use Rattle.state_cache.specs.declared.change.Changed.{Changed}
use Rattle.state_cache.specs.declared.edit.Edit.{Edit}
use Rattle.state_cache.specs.declared.edit.Done.{Done}
use Rattle.state_cache.specs.declared.edit.Made.{Made}
use Rattle.state_cache.specs.declared.edit.Patch.{Patch}
use Rattle.state_cache.specs.declared.edit.Stretch.{Stretch}
use Rattle.paint_reuse.specs.Local.{IsLocal}
use Rattle.state_cache.specs.Brushes.{items_by, rules_by}
use Rattle.state_cache.specs.Notes.{NoteFits}
use Rattle.state_cache.specs.Reach.{LooksWithin}

-- ---- the changed text

abbrev pub changed_text : Changed → Text
changed_text changed = replaced changed.text.now.lines changed.a changed.b changed.new.now

abbrev pub change_in : Changed → Change
change_in changed = record { a = changed.a; b = changed.b; count = length changed.new.now }

-- ---- the edit

abbrev pub rules_of : Edit → Rules
rules_of edit = rules_by edit.brush

abbrev pub items_of : Edit → ℕ
items_of edit = items_by edit.brush

abbrev pub lines_of : Edit → Text
lines_of edit = edit.changed.text.now.lines

abbrev pub text_of : Edit → Text
text_of edit = changed_text edit.changed

abbrev pub change_by : Edit → Change
change_by edit = change_in edit.changed

-- the notes of the old text
abbrev pub old_by : Edit → List KeptNote
old_by edit = edit.notes.now.0

-- the lines to paint, by the notes of the old text
abbrev pub to_paint_in : Rules → List KeptNote → Changed → ℕ
to_paint_in r notes changed =
    to_paint_from r (changed_text changed) (notes_from 0 notes) (change_in changed) 0 (changed_text changed) empty_state

abbrev pub most_by : Edit → ℕ
most_by edit = to_paint_in (rules_of edit) (old_by edit) edit.changed

-- what is known of the old text stands: its notes are its painting, and none of its lines looked
-- further, or at a number where the reach tells of none
pub record IsSoundEdit (edit : Edit) : Type 0 where
  pub budget : 1 ≤ edit.brush.budget
  pub painted : text_notes (rules_of edit) (lines_of edit) ≡ Ok (old_by edit)
  pub count : length (old_by edit) ≡ length (lines_of edit)
  pub fit : All (NoteFits (items_of edit)) (old_by edit)
  pub within : All (LooksWithin edit.reach) (old_by edit)
  pub local : IsLocal (rules_of edit)

-- ---- the state before a line, where none is given that before the old line

abbrev pub given_by : Option State → Option rule.State
given_by given = option_map top_first given

abbrev pub state_at : Edit → Option State → ℕ → rule.State
state_at edit given j = state_by (given_by given) (before_at empty_state (old_by edit) j)

abbrev pub GivenFits : ℕ → Option State → Type 0
GivenFits n given = IfSome given (λ s. StateFits n (top_first s))

-- ---- what is made

-- an old line that is reusable, or the new note of one that isn't
abbrev pub IsKeptOr : Edit → ℕ → ℕ → rule.State → Option KeptNote → Type 0
IsKeptOr edit j k s None =
    (note : KeptNote) × (slice_get (old_by edit) j ≡ Some note) × (line_note (rules_of edit) (text_of edit) k s ≡ Ok note)
IsKeptOr edit j k s (Some note) = line_note (rules_of edit) (text_of edit) k s ≡ Ok note

-- the notes with some of them exchanged
abbrev pub patched : List KeptNote → List Patch → List KeptNote
patched notes [] = notes
patched notes (p ∷ ps) = patched (set notes p.line p.note) ps

abbrev pub PatchesFit : ℕ → List Patch → Type 0
PatchesFit n patches = All (λ p. NoteFits n p.note) patches

-- the notes that are left where lines a to b - 1 gave way to new ones
abbrev pub left : List KeptNote → ℕ → ℕ → Made → List KeptNote
left notes a b made = put_in (patched notes made.patches) a b made.fresh

-- By some rules over so many items, of a text with these notes, where its lines a to b - 1 become
-- new: what was made is the painting of the changed text, and what is told of it.
pub record IsMadeOf (r : Rules) (n : ℕ) (t : Text) (notes : List KeptNote) (a b : ℕ) (new : List (List ℕ))
    (made : Made) : Type 0 where
  pub painted : text_notes r (replaced t a b new) ≡ Ok (left notes a b made)
  pub told : made.report ≡ report (kept_spans notes) (kept_spans (left notes a b made))
      (record { a = a; b = b; count = length new })
  pub count : length made.fresh ≡ length new
  pub fit : All (NoteFits n) (left notes a b made)
  pub within : All (LooksWithin made.reach) (left notes a b made)

abbrev pub IsMade : Edit → Made → Type 0
IsMade edit made =
    IsMadeOf (rules_of edit) (items_of edit) (lines_of edit) (old_by edit)
    edit.changed.a edit.changed.b edit.changed.new.now made

-- ---- the work

-- the work of going over old lines
abbrev pub stretch_work : Edit → Stretch → Option State → Work
stretch_work edit stretch given =
    work (rules_of edit) (text_of edit) (old_by edit) (change_by edit) stretch.first (stretch.to - stretch.from)
    (state_at edit given stretch.from)

-- the work of painting the new lines
abbrev pub new_work : Edit → State → Work
new_work edit given =
    work (rules_of edit) (text_of edit) (old_by edit) (change_by edit) edit.changed.a (length edit.changed.new.now)
    (top_first given)

-- ---- on the way

-- from what was made before, the walk over old lines has come to line j, in this state
pub record GoesOn (edit : Edit) (stretch : Stretch) (given : Option State) (made0 : Done) (steps0 : ℕ)
    (j : ℕ) (state : Option State) (made : Done) (steps : ℕ) : Type 0 where
  pub from : stretch.from ≤ j
  pub to : j ≤ stretch.to
  pub along : Along (stretch_work edit stretch given)
      (work (rules_of edit) (text_of edit) (old_by edit) (change_by edit)
      (stretch.first + (j - stretch.from)) (stretch.to - j) (state_at edit state j))
      (take stretch.from (patched (old_by edit) made0.patches)) (take j (patched (old_by edit) made.patches))
      made0.report made.report steps0 steps
  pub below : drop j (patched (old_by edit) made.patches) ≡ drop j (old_by edit)
  pub fits : GivenFits (items_of edit) state
  pub patches : PatchesFit (items_of edit) made.patches

-- i new lines were painted, and this state stands behind them
pub record GoesOnNew (edit : Edit) (given : State) (report0 : List ℕ) (steps0 : ℕ)
    (i : ℕ) (state : State) (made : List KeptNote) (report : List ℕ) (steps : ℕ) : Type 0 where
  pub along : Along (new_work edit given)
      (work (rules_of edit) (text_of edit) (old_by edit) (change_by edit)
      (edit.changed.a + i) (length edit.changed.new.now - i) (top_first state))
      [] made report0 report steps0 steps
  pub fits : StateFits (items_of edit) (top_first state)
  pub fresh : All (NoteFits (items_of edit)) made

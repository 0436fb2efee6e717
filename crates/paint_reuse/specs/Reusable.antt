-- When a line is reusable, said without a test; and that it is painted as its old line was.
use Rattle.std.specs.Prelude.{◌≡◌, ◌⊎◌, ◌≤◌, ℕ, pos, ◌-ℤ◌, true, List, length, Some, slice_get}
use Rattle.std.specs.Bool.{Decides}
use Rattle.char_class.specs.declared.sets.Sets.{Sets}
use Rattle.keyword_table.specs.declared.table.Definition.{Definition}
use Rattle.match_rules.specs.Ways.{Text}
use Rattle.syntax_set.specs.ClusterTable.{ClusterList}
use Rattle.syntax_set.specs.declared.added_item.AddedItem.{AddedItem}
use Rattle.paint_rules.specs.Line.{Note, Whole, painted_line, painting}
use Rattle.paint_rules.specs.Painted.{Done}
use Rattle.paint_rules.specs.Rules.{Rules}
use Rattle.paint_rules.specs.States.{State}
use Rattle.paint_rules.specs.Syntax.{rules_of}
use Rattle.paint_shift.specs.Change.{AreBefore, AreFrom, KeepsNumber}
use Rattle.paint_shift.specs.Elsewhere.{line_in, moved}
use Rattle.paint_reuse.specs.declared.change.Change.{Change}
use Rattle.paint_reuse.specs.Change.{old_line, replaced}
use Rattle.paint_reuse.specs.Reuse.{is_reusable}

-- Line k of a changed text, before which this state stands, is reusable by these four conditions:
pub record IsReusable (notes : List Note) (change : Change) (k : ℕ) (state : State) : Type 0 where
  -- it was a line of the old text, whose note is among these
  pub line : ℕ
  pub was : old_line change k ≡ Some line
  pub note : Note
  pub noted : slice_get notes line ≡ Some note
  -- the lines that its painting looked at all lie before the replaced ones, or all behind them
  pub apart : AreBefore change.a note.looked ⊎ AreFrom change.b note.looked
  -- it has the number that it had, if its painting looked at one
  pub number : KeepsNumber line k note.looked
  -- the same state stood before it
  pub begins : note.before ≡ state

-- the law: the test passes exactly for these lines
abbrev pub FourConditionsMakeALineReusable : Type 0
FourConditionsMakeALineReusable =
    (notes : List Note) (change : Change) (k : ℕ) (state : State) →
    Decides (is_reusable notes change k state) (IsReusable notes change k state)

-- line k of a text is painted from this state as the old line that it was, whose note is among
-- these, with its looked lines moved along
pub record KeepsItsPainting (r : Rules) (t : Text) (notes : List Note) (change : Change) (k : ℕ)
    (state : State) : Type 0 where
  pub line : ℕ
  pub was : old_line change k ≡ Some line
  pub note : Note
  pub noted : slice_get notes line ≡ Some note
  pub begins : note.before ≡ state
  pub painted : painted_line (line_in r t k) state
      ≡ moved (pos k -ℤ pos line) (Done (record { spans = note.spans; after = note.after }) note.looked)

-- the law: by the rules of every syntax, of every change of a text that is painted
abbrev pub ReusableLinesKeepTheirPainting : Type 0
ReusableLinesKeepTheirPainting =
    (items : List AddedItem) (lists : List ClusterList) (keywords : List Definition) (sets : Sets)
    (budget : ℕ) (t : Text) (notes : List Note) (a b : ℕ) (new : List (List ℕ)) (k : ℕ)
    (state : State) → painting (rules_of items lists keywords sets budget) t ≡ Whole notes →
    a ≤ b → b ≤ length t →
    is_reusable notes (record { a = a; b = b; count = length new }) k state ≡ true →
    KeepsItsPainting (rules_of items lists keywords sets budget) (replaced t a b new) notes
    (record { a = a; b = b; count = length new }) k state

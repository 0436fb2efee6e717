-- A change of a text replaces some of its lines. A line whose painting looked at none of them keeps
-- it, unless it looked at a line's number and stands under another one now.
use Rattle.std.specs.Prelude.{◌≡◌, ◌<◌, ◌≤◌, ◌+◌, ℕ, pos, ◌-ℤ◌, ◌<ℤ◌, ◌≤ℤ◌, List, ◌++◌, length}
use Rattle.std.specs.Prelude.{take, drop}
use Rattle.std.specs.Prelude.{Option, Some, None, true}
use Rattle.char_class.specs.declared.sets.Sets.{Sets}
use Rattle.syn_base.specs.declared.looked.Looked.{Looked}
use Rattle.keyword_table.specs.declared.table.Definition.{Definition}
use Rattle.match_rules.specs.Ways.{Text}
use Rattle.syntax_set.specs.ClusterTable.{ClusterList}
use Rattle.syntax_set.specs.declared.added_item.AddedItem.{AddedItem}
use Rattle.paint_rules.specs.Line.{painted_line}
use Rattle.paint_rules.specs.Rules.{Rules}
use Rattle.paint_rules.specs.States.{State}
use Rattle.paint_rules.specs.Syntax.{rules_of}
use Rattle.paint_shift.specs.Elsewhere.{looked_of, moved, line_in}

-- the text where the lines from one number up to another, excluded, gave way to new ones
abbrev pub replaced : Text → ℕ → ℕ → List (List ℕ) → Text
replaced t first end new = take first t ++ (new ++ drop end t)

-- all lines that were looked at come before a number
abbrev pub AreBefore : ℕ → Option Looked → Type 0
AreBefore n None = Unit {0}
AreBefore n (Some l) = l.high <ℤ pos n

-- none of them does
abbrev pub AreFrom : ℕ → Option Looked → Type 0
AreFrom n None = Unit {0}
AreFrom n (Some l) = pos n ≤ℤ l.low

-- a line's number k is the same now, if it was looked at
abbrev pub KeepsNumber : ℕ → ℕ → Option Looked → Type 0
KeepsNumber k now None = Unit {0}
KeepsNumber k now (Some l) = l.numbered ≡ true → now ≡ k

-- what a change leaves, where the same stands before a line in both texts
pub record Leaves (r : Rules) (t : Text) (first end : ℕ) (new : List (List ℕ))
    (before : State) : Type 0 where
  -- a line that looked at lines before the change alone is painted as it was
  pub lines_before : (k : ℕ) → k < length t →
      AreBefore first (looked_of (painted_line (line_in r t k) before)) →
      painted_line (line_in r (replaced t first end new) k) before
      ≡ painted_line (line_in r t k) before
  -- and so is one that looked at lines behind it alone, where that stands now: under another number,
  -- if it looked at none
  pub lines_behind : (k now : ℕ) → k < length t → now + end ≡ k + (first + length new) →
      AreFrom end (looked_of (painted_line (line_in r t k) before)) →
      KeepsNumber k now (looked_of (painted_line (line_in r t k) before)) →
      painted_line (line_in r (replaced t first end new) now) before
      ≡ moved (pos (first + length new) -ℤ pos end) (painted_line (line_in r t k) before)

-- the law: by the rules of every syntax, of every change
abbrev pub ChangesLeaveOtherLines : Type 0
ChangesLeaveOtherLines =
    (items : List AddedItem) (lists : List ClusterList) (keywords : List Definition) (sets : Sets)
    (budget : ℕ) (t : Text) (first end : ℕ) (new : List (List ℕ)) (before : State) →
    first ≤ end → end ≤ length t →
    Leaves (rules_of items lists keywords sets budget) t first end new before

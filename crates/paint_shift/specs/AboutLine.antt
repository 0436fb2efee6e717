-- The lines that a painting looks at lie about its line, and on its text: the lowest of them isn't
-- before the line before the text's first one, the highest not behind the line behind its last one.
use Rattle.std.specs.Prelude.{◌≡◌, ◌<◌, ℕ, List, length, Option, Some}
use Rattle.char_class.specs.declared.sets.Sets.{Sets}
use Rattle.syn_base.specs.declared.looked.Looked.{Looked}
use Rattle.keyword_table.specs.declared.table.Definition.{Definition}
use Rattle.match_rules.specs.OnText.{AreLinesAbout}
use Rattle.match_rules.specs.Ways.{Text}
use Rattle.syntax_set.specs.ClusterTable.{ClusterList}
use Rattle.syntax_set.specs.declared.added_item.AddedItem.{AddedItem}
use Rattle.paint_rules.specs.Line.{painted_line}
use Rattle.paint_rules.specs.Rules.{Rules, place_at}
use Rattle.paint_rules.specs.States.{State}
use Rattle.paint_rules.specs.Syntax.{rules_of}
use Rattle.paint_shift.specs.Elsewhere.{looked_of, line_in}

-- some lines were looked at, and they lie about a line
pub record LooksAbout (t : Text) (l : ℕ) (looked : Option Looked) : Type 0 where
  pub lines : Looked
  pub are : looked ≡ Some lines
  pub about : AreLinesAbout t (place_at l 0) lines

-- by some rules: whatever stands before a line of a text, and whether it is painted or refused
abbrev pub LookAbout : Rules → Type 0
LookAbout r =
    (t : Text) (l : ℕ) (before : State) → l < length t →
    LooksAbout t l (looked_of (painted_line (line_in r t l) before))

-- the law: by the rules of every syntax
abbrev pub PaintingsLookAboutTheirLine : Type 0
PaintingsLookAboutTheirLine =
    (items : List AddedItem) (lists : List ClusterList) (keywords : List Definition) (sets : Sets)
    (budget : ℕ) → LookAbout (rules_of items lists keywords sets budget)

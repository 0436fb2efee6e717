-- A line that stands elsewhere: in another text, some lines further on or back.
use Rattle.std.specs.Prelude.{◌≡◌, ◌<◌, ℕ, ℤ, pos, ◌+ℤ◌, List, length, Option, Some, None}
use Rattle.std.specs.Option.{option_map}
use Rattle.char_class.specs.declared.sets.Sets.{Sets}
use Rattle.syn_base.specs.Agreement.{Agree}
use Rattle.syn_base.specs.Looked.{moved_by}
use Rattle.syn_base.specs.declared.looked.Looked.{Looked}
use Rattle.keyword_table.specs.declared.table.Definition.{Definition}
use Rattle.match_rules.specs.Ways.{Text}
use Rattle.syntax_set.specs.ClusterTable.{ClusterList}
use Rattle.syntax_set.specs.declared.added_item.AddedItem.{AddedItem}
use Rattle.paint_rules.specs.Line.{painted_line}
use Rattle.paint_rules.specs.Painted.{Painted, Done, Refused}
use Rattle.paint_rules.specs.Rules.{Rules, Here}
use Rattle.paint_rules.specs.States.{State}
use Rattle.paint_rules.specs.Syntax.{rules_of}

-- the lines that were looked at
abbrev pub looked_of : {E A : Type 0} → Painted E A → Option Looked
looked_of (Done a k) = k
looked_of (Refused c k) = k

-- the same value, or the same refusal, where the lines that were looked at stand so far on
abbrev pub moved : {E A : Type 0} → ℤ → Painted E A → Painted E A
moved by (Done a k) = Done a (option_map (λ l. moved_by l by) k)
moved by (Refused c k) = Refused c (option_map (λ l. moved_by l by) k)

-- two texts agree on the lines that were looked at, and stand alike where a line's number was
abbrev pub AgreeOn : Text → Text → ℤ → Option Looked → Type 0
AgreeOn t u by None = Unit {0}
AgreeOn t u by (Some looked) = Agree t u by looked

abbrev pub line_in : Rules → Text → ℕ → Here
line_in r t l = record { rules = r; text = t; line = l }

-- By some rules, from the same state: where two texts agree on the lines that the painting of a
-- line of the one looks at, as far on as that line stands in the other, its painting there is the
-- same, moved.
abbrev pub ArePaintedAlike : Rules → Type 0
ArePaintedAlike r =
    (t u : Text) (by : ℤ) (k j : ℕ) (before : State) → pos j ≡ pos k +ℤ by → k < length t →
    AgreeOn t u by (looked_of (painted_line (line_in r t k) before)) →
    painted_line (line_in r u j) before ≡ moved by (painted_line (line_in r t k) before)

-- the law: by the rules of every syntax
abbrev pub LinesArePaintedAlike : Type 0
LinesArePaintedAlike =
    (items : List AddedItem) (lists : List ClusterList) (keywords : List Definition) (sets : Sets)
    (budget : ℕ) → ArePaintedAlike (rules_of items lists keywords sets budget)

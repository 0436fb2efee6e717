-- A syntax as the painter asks it, and where it stands.
use Rattle.std.specs.Prelude.{ℕ, Bool, true, false, nat_lt, nat_eq, List, [], Option, Some, get_or, replicate}
use Rattle.char_class.specs.declared.sets.Sets.{Sets}
use Rattle.syn_base.specs.declared.places.Place.{Place}
use Rattle.syn_base.specs.declared.places.GroupId.{GroupId}
use Rattle.syn_base.specs.declared.places.ItemId.{ItemId}
use Rattle.syn_base.specs.declared.looked.Looked.{Looked}
use Rattle.vim_pattern.specs.Tree.{PatternTree}
use Rattle.match_rules.specs.Ways.{Text, line_at}
use Rattle.pattern_match.specs.declared.answer.Match.{Match}
use Rattle.keyword_table.specs.declared.table.Definition.{Definition}
use Rattle.syntax_set.specs.ClusterTable.{ClusterList}
use Rattle.syntax_set.specs.declared.added_item.AddedItem.{AddedItem}
use Rattle.syntax_set.specs.declared.item.Item.{Item}
use Rattle.syntax_set.specs.declared.item.Pattern.{Pattern}
use Rattle.paint_rules.specs.Painted.{Painted, Done, Refused}
pub use Rattle.paint_rules.specs.NoItem.{no_item, no_added}

abbrev pub Matched : Type 0
Matched = Match

-- an attempt: its match or none, its cost, the lines it looked at
pub record Attempt : Type 0 where
  pub found : Option Matched
  pub cost : ℕ
  pub looked : Looked

-- why a painting is refused
pub data Cause : Type 0 where
  TooCostly : (item : ItemId) → Cause
  TooDeep : Cause

-- A syntax. `attempt` tries a pattern that may ignore case, with the texts of its externals, at a place.
pub record Rules : Type 0 where
  pub items : List AddedItem
  pub lists : List ClusterList
  pub keywords : List Definition
  pub sets : Sets
  pub attempt : Text → PatternTree → Bool → List (List ℕ) → Place → Attempt
  pub budget : ℕ

-- the line that is painted
pub record Here : Type 0 where
  pub rules : Rules
  pub text : Text
  pub line : ℕ

abbrev pub this_line : Here → List ℕ
this_line h = line_at h.text h.line

abbrev pub place_at : ℕ → ℕ → Place
place_at l c = record { line = l; col = c }

-- the item of a number, live or not
abbrev pub item_of : List AddedItem → ItemId → Item
item_of items i = (get_or items i.0 no_added).item

abbrev pub same_item : ItemId → ItemId → Bool
same_item i j = nat_eq i.0 j.0

abbrev pub same_group : GroupId → GroupId → Bool
same_group g h = nat_eq g.0 h.0

abbrev pub within_budget : ItemId → ℕ → Attempt → Painted Cause (Option Matched)
within_budget i budget a =
    elim (nat_lt budget a.cost) [ true ↦ Refused (TooCostly i) (Some a.looked) | false ↦ Done a.found (Some a.looked) ]

-- one attempt of a pattern that belongs to an item
abbrev pub attempted : Rules → Text → ItemId → List (List ℕ) → Pattern → Place → Painted Cause (Option Matched)
attempted r t i externals pattern p =
    within_budget i r.budget (r.attempt t pattern.tree (item_of r.items i).ignore externals p)

abbrev pub no_externals : List (List ℕ)
no_externals = replicate 9 []

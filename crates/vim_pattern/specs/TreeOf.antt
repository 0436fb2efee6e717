-- The tree of a text, or its fault, as the fold over its items gives it. A law in src/laws.rt says
-- that it is the grammar's.
use Rattle.std.specs.Prelude.{◌≡◌, ◌↔◌, ℕ, nat_lt, List, length, count_by, if◌then◌else◌, Result, Ok, Err}
use Rattle.std.specs.List.{list_any}
use Rattle.pattern_items.specs.declared.cause.PatternCause.TheVariants.{TooLong}
use Rattle.pattern_items.specs.declared.item.PatternUse.{PatternUse}
use Rattle.pattern_items.specs.Place.{Item, items_of, is_counted, is_external}
use Rattle.vim_pattern.specs.Tree.{PatternTree}
use Rattle.vim_pattern.specs.Shape.{Shape}
use Rattle.vim_pattern.specs.Fault.{Fault, fault_at}
use Rattle.vim_pattern.specs.Pattern.{case_of, sets_match_start, holds_line_stop, IsTreeOf, HasFault}
use Rattle.vim_pattern.specs.Read.{read, start}

-- the tree of items that have these nodes
abbrev pub tree_with : List Item → Shape → PatternTree
tree_with items node = record {
  node = node;
  case = case_of items;
  groups = count_by (λ i. is_counted i.sign) items;
  externals = count_by (λ i. is_external i.sign) items;
  moves_start = list_any (λ i. sets_match_start i.sign) items;
  line_end = list_any (λ i. holds_line_stop i.sign) items;
}

abbrev pub tree_by : List Item → Result Shape Fault → Result PatternTree Fault
tree_by items (Ok node) = Ok (tree_with items node)
tree_by items (Err fault) = Err fault

-- the tree of a text, or its fault
abbrev pub tree_of : List ℕ → PatternUse → Result PatternTree Fault
tree_of text use_ =
    if nat_lt 4000 (length text) then Err (fault_at 4000 TooLong)
    else tree_by (items_of use_ text) (read (items_of use_ text) start)

-- the fold gives the trees of the grammar, and its faults
abbrev pub TreesAreRead : Type 0
TreesAreRead =
    (text : List ℕ) (usage : PatternUse) (tree : PatternTree)
    → (tree_of text usage ≡ Ok tree) ↔ IsTreeOf text usage tree

abbrev pub FaultsAreRead : Type 0
FaultsAreRead =
    (text : List ℕ) (usage : PatternUse) (fault : Fault)
    → (tree_of text usage ≡ Err fault) ↔ HasFault text usage fault

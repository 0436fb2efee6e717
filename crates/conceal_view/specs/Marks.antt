-- Which items and areas get marks (Vim's help, :syn-conceal, :syn-concealends), and by which numbers.
use Rattle.std.specs.Prelude.{ℕ, suc, ◌+◌, List, [], ◌∷◌, ◌++◌, length, Option, Some, None, if◌then◌else◌}
use Rattle.std.specs.List.{flat_map}
use Rattle.syn_base.specs.declared.places.GroupId.{GroupId}
use Rattle.syntax_set.specs.Groups.{group_numbered}
use Rattle.syntax_set.specs.Numbers.{with_numbers}
use Rattle.syntax_set.specs.declared.added_item.AddedItem.{AddedItem}
use Rattle.syntax_set.specs.declared.item.Item.{Item}
use Rattle.syntax_set.specs.declared.item.ItemKind.{ItemKind}
use Rattle.syntax_set.specs.declared.item.ItemKind.TheVariants.{Keyword, Match, Region}
use Rattle.syntax_set.specs.declared.item.Pattern.{Pattern}
use Rattle.conceal_view.specs.declared.marks.Mark.{Mark}

-- a group by its number, if there is one
abbrev pub number_in : Option GroupId → List ℕ
number_in None = []
number_in (Some group) = group.0 ∷ []

abbrev pub matchgroups_of : List Pattern → List ℕ
matchgroups_of patterns = flat_map (λ pattern. number_in pattern.matchgroup) patterns

-- the matchgroups of a region, each once: those of its starts, and behind them those of its ends alone
abbrev pub matchgroups_in : ItemKind → List ℕ
matchgroups_in Keyword = []
matchgroups_in (Match pattern) = []
matchgroups_in (Region starts skip ends) = with_numbers [] (matchgroups_of starts ++ matchgroups_of ends)

-- the group of an item whose body, or keyword, is concealed
abbrev pub concealed_body : Item → List ℕ
concealed_body item = if item.conceal then item.group.0 ∷ [] else []

-- the matchgroups of a region whose areas are concealed
abbrev pub concealed_areas : Item → List ℕ
concealed_areas item = if item.concealends then matchgroups_in item.kind else []

-- the groups for which an item gets marks: one that isn't live gets none
abbrev pub groups_to_mark : AddedItem → List ℕ
groups_to_mark added = if added.live then concealed_body added.item ++ concealed_areas added.item else []

-- the marks of an item for some groups, numbered from a number on
abbrev pub marks_for : ℕ → ℕ → List ℕ → List Mark
marks_for number item [] = []
marks_for number item (group ∷ groups) =
    record { number = group_numbered number; item = record { 0 = item }; shown = group_numbered group }
    ∷ marks_for (suc number) item groups

-- the number behind those of an item's marks, of which the first has this number
abbrev pub number_behind : ℕ → AddedItem → ℕ
number_behind number added = number + length (groups_to_mark added)

-- the marks of items, of which the first has this place, numbered from a number on
abbrev pub marks_from : ℕ → ℕ → List AddedItem → List Mark
marks_from number place [] = []
marks_from number place (added ∷ items) =
    marks_for number place (groups_to_mark added) ++ marks_from (number_behind number added) (suc place) items

-- the marks of all items
abbrev pub marks_of : List AddedItem → List Mark
marks_of items = marks_from 20000 0 items

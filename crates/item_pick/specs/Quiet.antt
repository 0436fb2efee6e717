-- Items that can't start at a place.
use Rattle.std.specs.Prelude.{◌≡◌, ◌<◌, ◌≤◌, ◌-◌, ◌⊎◌, ℕ, true, false, List, length}
use Rattle.std.specs.List.{list_any}
use Rattle.syn_base.specs.declared.looked.Looked.{Looked}
use Rattle.syn_base.specs.declared.places.Place.{Place}
use Rattle.syn_base.specs.declared.places.ItemId.{ItemId}
use Rattle.match_rules.specs.Ways.{Text, line_at}
use Rattle.syntax_set.specs.declared.item.Pattern.{Pattern}
use Rattle.paint_rules.specs.Rules.{Rules, item_of, same_item}
use Rattle.paint_rules.specs.ItemMatch.{match_from}
use Rattle.item_pick.specs.declared.choice.Choice.{Choice}
use Rattle.item_pick.specs.Screens.{IsIdle}
use Rattle.item_pick.specs.Standing.{IsPatternOf}
use Rattle.item_pick.specs.Started.{is_free, start_if_free}

-- no pattern of an item gives a match there, from any column, and no line is looked at that wasn't
-- before
abbrev pub IsQuiet : Rules → Text → Place → ℕ → Looked → ItemId → Type 0
IsQuiet r t p floor k i =
    (pattern : Pattern) → IsPatternOf (item_of r.items i).kind pattern →
    (c : ℕ) → floor - pattern.lc ≤ c → c ≤ length (line_at t p.line) →
    IsIdle (match_from r t i pattern p) k c

-- it has started there, or it doesn't
abbrev pub IsPassed : Rules → Text → Place → ℕ → Looked → List ItemId → ItemId → Type 0
IsPassed r t p floor k tried i =
    (list_any (same_item i) tried ≡ true) ⊎ IsQuiet r t p floor k i

abbrev pub item_numbered : ℕ → ItemId
item_numbered n = record { 0 = n }

-- from the last of some items down to here, all may be passed over
abbrev pub IsNextItem : Rules → Text → Place → ℕ → List ItemId → Choice → Looked → ℕ → ℕ → Type 0
IsNextItem r t p floor tried choice k left next =
    (next ≤ left) ×
    ((j : ℕ) → next ≤ j → j < left →
    (is_free r tried choice (item_numbered j) ≡ false) ⊎ IsQuiet r t p floor k (item_numbered j))

-- once some lines were looked at, the search may go on with fewer items
pub record IsEarlier (r : Rules) (t : Text) (p : Place) (floor : ℕ) (tried : List ItemId) (choice : Choice) (k : Looked) (left next : ℕ) : Type 0 where
  pub behind : next ≤ left
  pub idle : (j : ℕ) → next ≤ j → j < left → IsIdle (start_if_free r t p floor tried choice) k (item_numbered j)

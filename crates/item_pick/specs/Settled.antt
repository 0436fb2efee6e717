-- Columns at which no item that wanders starts.
use Rattle.std.specs.Prelude.{◌≡◌, ◌<◌, ◌≤◌, ◌||◌, ℕ, Bool, true, false, not, is_none, length, Option, Some, None}
use Rattle.syn_base.specs.declared.looked.Looked.{Looked}
use Rattle.match_rules.specs.Ways.{Text}
use Rattle.syntax_set.specs.declared.item.Pattern.{Pattern}
use Rattle.paint_rules.specs.Rules.{Rules, item_of, place_at}
use Rattle.item_pick.specs.declared.choice.Choice.{Choice}
use Rattle.item_pick.specs.Quiet.{IsQuiet, item_numbered}
use Rattle.item_pick.specs.Standing.{first_pattern}
use Rattle.item_pick.specs.Started.{admits}

-- a match by the pattern may have its item start elsewhere than its offset from the first column says
abbrev pub wanders : Pattern → Bool
wanders pattern = pattern.tree.moves_start || not (is_none pattern.ms)

abbrev pub some_wanders : Option Pattern → Bool
some_wanders None = false
some_wanders (Some pattern) = wanders pattern

-- an item wanders by the first of its start patterns
abbrev pub item_wanders : Rules → ℕ → Bool
item_wanders r j = some_wanders (first_pattern (item_of r.items (item_numbered j)).kind)

-- those of the admitted items that wander, or those that don't, have no match at a column
abbrev pub ArePassed : Rules → Text → ℕ → Choice → ℕ → Looked → Bool → ℕ → Type 0
ArePassed r t l choice floor k wandering c =
    (j : ℕ) → j < length r.items → admits r choice (item_numbered j) ≡ true →
    item_wanders r j ≡ wandering → IsQuiet r t (place_at l c) floor k (item_numbered j)

-- those that wander have none from a column up to, and without, another
abbrev pub AreSettled : Rules → Text → ℕ → Choice → ℕ → Looked → ℕ → ℕ → Type 0
AreSettled r t l choice floor k from end =
    (c : ℕ) → from ≤ c → c < end → ArePassed r t l choice floor k true c

-- What is known of attempts by first start patterns tells which columns are missed.
use Rattle.item_pick.proofs.Common.{◌≡◌, ◌+◌, inr, ℕ, true, List, nat_lt, ItemId, Pattern, Rules, fails_after, fails_at, first_asked, takes_first, IsFirst, IsMissed, IsNumberAt}
use Rattle.item_pick.proofs.KeptLaws.{first_by}
use Rattle.item_pick.proofs.TableLaws.{vain_is_missed}

module _ (r : Rules) (line : List ℕ) (col number : ℕ) where
  -- where attempts are known to be in vain at the columns with its key
  pub told_here : IsNumberAt r line col number → (i : ItemId) → first_asked fails_at r number i.0 ≡ true → (pattern : Pattern) → IsFirst r i pattern → IsMissed r line i pattern col
  told_here key i told pattern first = vain_is_missed r line col number key i (first_by fails_at r i number told) pattern first

  -- or one column before those with the key of the next one
  pub told_after : IsNumberAt r line (col + 1) number → (i : ItemId) → first_asked fails_after r number i.0 ≡ true → (pattern : Pattern) → takes_first (nat_lt 0 col) pattern.tree.node ≡ true → IsFirst r i pattern →
      IsMissed r line i pattern col
  told_after key i told pattern takes first = inr (takes, (number, (key, first_by fails_after r i number told pattern first)))

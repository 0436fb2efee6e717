use Rattle.std.proofs.Common.{◌≡◌, ◌≤◌, take, count_by}
use Rattle.syntax_set.specs.declared.added_item.AddedItem.{AddedItem}
use Rattle.syntax_set.proofs.item_set.count_live.Given as goal

-- the live items up to here were counted
abbrev pub invariant-loop-added : goal.invariant-loop-added
invariant-loop-added l = record {
  counted : l.count ≡ count_by (λ (added : AddedItem). added.live) (take l.added-index l.items);
  within : l.count ≤ l.added-index;
}

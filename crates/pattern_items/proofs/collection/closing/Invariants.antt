use Rattle.std.proofs.Common.{◌≡◌, ◌+◌, ◌≤◌, length}
use Rattle.pattern_items.specs.Collection.{closing}
use Rattle.pattern_items.proofs.collection.closing.Given as goal

-- what is left closes where the whole text does
abbrev pub invariant-loop-c : goal.invariant-loop-c
invariant-loop-c l = record {
  same : closing 0 l.len l.rest ≡ closing 0 l.fn.before l.text;
  within : l.len + length l.rest ≡ l.fn.before + length l.text;
  past : l.fn.before ≤ l.len;
}

abbrev pub decreases-loop-c : goal.decreases-loop-c
decreases-loop-c l = length l.rest

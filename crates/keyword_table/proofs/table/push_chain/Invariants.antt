use Rattle.std.proofs.Common.{◌≡◌, ◌+◌, ◌<◌, ◌++◌, length}
use Rattle.std.specs.Option.{ForSome, option_map_or}
use Rattle.keyword_table.specs.Chains.{definitions, items_from}
use Rattle.keyword_table.proofs.table.push_chain.Given as goal

-- what is left of the chain begins at `at`
abbrev pub invariant-loop-at : goal.invariant-loop-at
invariant-loop-at l = record {
  walked : l.items ++ items_from (definitions l.entries) l.at ≡ l.fn.items ++ items_from (definitions l.entries) l.fn.last;
  within : ForSome l.at (λ k. k < length l.entries);
}

abbrev pub decreases-loop-at : goal.decreases-loop-at
decreases-loop-at l = option_map_or (λ k. k + 1) l.at 0

use Rattle.std.proofs.Common.{◌≡◌, take}
use Rattle.syntax_set.specs.ClusterLists.{with_entries}
use Rattle.syntax_set.proofs.named.Named.insert_all.Given as goal

-- the entries up to here were put in
abbrev pub invariant-loop-entry : goal.invariant-loop-entry
invariant-loop-entry l = l.self ≡ with_entries l.initial.self (take l.entry-index l.entries)

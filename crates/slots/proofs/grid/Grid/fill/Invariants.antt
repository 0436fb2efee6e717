use Rattle.std.proofs.Common.{◌≤◌, ℕ, length}
use Rattle.slots.specs.Entries.{IsIn}
use Rattle.slots.proofs.grid.Grid.fill.Given as goal

-- no row has another entry than before
abbrev pub invariant-loop : goal.invariant-loop
invariant-loop g l = record {
  many : l.counter ≤ length l.self.rows.items;
  kept : (j k : ℕ) (entry : g.row.E.Denot) → IsIn l.self j k entry → IsIn l.initial.self j k entry;
}

use Rattle.std.proofs.Common.{◌-◌}
use Rattle.item_pick.specs.Tables.{TablesStand}
use Rattle.state_cache.specs.Edits.{GoesOn, rules_of}
use Rattle.state_cache.proofs.edit.Edit.old_lines.Given as goal

-- the walk has come to line j
abbrev pub invariant-lines : goal.invariant-lines
invariant-lines g l = record {
  goes : GoesOn l.self l.fn.stretch l.fn.given l.initial.done l.initial.steps l.j l.state l.done l.steps;
  tables : TablesStand (rules_of l.self) l.memory;
}

abbrev pub decreases-lines : goal.decreases-lines
decreases-lines g l = l.fn.stretch.to - l.j

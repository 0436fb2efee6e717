use Rattle.item_pick.specs.Tables.{TablesStand}
use Rattle.state_cache.specs.Edits.{GoesOnNew, rules_of}
use Rattle.state_cache.proofs.edit.Edit.new_lines.Given as goal

-- so many new lines were painted
abbrev pub invariant-loop-i : goal.invariant-loop-i
invariant-loop-i g l = record {
  goes : GoesOnNew l.self l.fn.given l.initial.report l.initial.steps l.i l.state l.fresh l.report l.steps;
  tables : TablesStand (rules_of l.self) l.memory;
}

use Rattle.std.proofs.Common.{◌≡◌, ◌≤◌, ◌+◌, length}
use Rattle.item_pick.specs.Tables.{TablesStand}
use Rattle.paint_reuse.specs.Work.{WalksOn}
use Rattle.state_cache.specs.Brushes.{items_by, rules_by}
use Rattle.state_cache.specs.Walk.{Stands}
use Rattle.state_stack.specs.TopFirst.{top_first}
use Rattle.state_cache.proofs.walk.paint_all.Given as goal

-- the notes that stand, and the state behind them
abbrev pub invariant-loop-line : goal.invariant-loop-line
invariant-loop-line g l = record {
  walks : WalksOn (rules_by l.brush) (g.T.Lines.lines l.text) l.line l.walk.notes.0 (top_first l.walk.state);
  stands : Stands (items_by l.brush) l.walk;
  tables : TablesStand (rules_by l.brush) l.memory;
  full : length l.walk.notes.0 ≡ l.line;
  counted : l.steps ≤ l.initial.steps + l.line;
}

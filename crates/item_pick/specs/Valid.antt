-- When the parts of a syntax may be asked.
use Rattle.std.specs.Prelude.{◌≡◌, ◌<◌, ◌≤◌, length}
use Rattle.syntax_set.specs.Soundness.{AreSound}
use Rattle.keyword_table.specs.ItemNumbers.{AreItemsBelow}
use Rattle.paint_rules.specs.Rules.{no_externals}
use Rattle.match_rules.specs.Ways.{Text, line_at}
use Rattle.syn_base.specs.declared.looked.Looked.{Looked}
use Rattle.paint_rules.specs.States.{StateFits}
use Rattle.state_stack.specs.TopFirst.{top_first}
use Rattle.item_pick.specs.declared.asked.Asked.{Asked}
use Rattle.item_pick.specs.declared.memory.PickMemory.{PickMemory}
use Rattle.item_pick.specs.declared.picking.Picking.{Picking}
use Rattle.item_pick.specs.declared.picking.Query.{Query}
use Rattle.item_pick.specs.PartsSeen.{rules_by}
use Rattle.item_pick.specs.Screens.{HoldsLine}
use Rattle.item_pick.specs.Standing.{IsPlace}
use Rattle.item_pick.specs.Tables.{MemoryStands}

-- the parts are sound together, an attempt may cost something, and there are nine empty texts
pub record IsSound (a : Asked) : Type 0 where
  pub patterns : AreSound a.parts.now.items.now a.parts.now.programs.now
  pub words : AreItemsBelow (length a.parts.now.items.now) a.parts.now.keywords.now
  pub budget : 1 ≤ a.budget
  pub none : a.no_externals.now ≡ no_externals

-- what starts at a place of a text may be asked, by what is kept of the syntax and known of the line
pub record MayAsk {L : Type 0} (lines : L → Text) (p : Picking L) (kept : PickMemory) : Type 0 where
  pub sound : IsSound p.asked.now
  pub place : IsPlace (lines p.lines.now) p.at
  pub memory : MemoryStands (rules_by p.asked.now) (lines p.lines.now) p.at.line kept

-- and some lines were looked at, the place's own among them
pub record MayPick {L : Type 0} (lines : L → Text) (p : Picking L) (k : Looked) (kept : PickMemory) : Type 0 where
  pub ask : MayAsk lines p kept
  pub held : HoldsLine k p.at.line

-- what is asked at a place of a present line may be asked, by what is kept of the syntax and known of the line
pub record MayBeAsked {L : Type 0} (lines : L → Text) (q : Query L) (kept : PickMemory) : Type 0 where
  pub sound : IsSound q.asked.now
  pub present : q.at.line < length (lines q.lines.now)
  pub within : q.at.col ≤ length (line_at (lines q.lines.now) q.at.line)
  pub fits : StateFits (length q.asked.now.parts.now.items.now) (top_first q.state.now)
  pub held : HoldsLine q.looked q.at.line
  pub memory : MemoryStands (rules_by q.asked.now) (lines q.lines.now) q.at.line kept

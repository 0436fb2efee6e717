use Rattle.item_pick.proofs.Common.{◌≤◌, ◌<◌, ℕ, place_at, rules_by, IsQuietAt, MayAsk}
use Rattle.item_pick.proofs.picking.Picking.quiet_until.Given as goal

-- the columns before are quiet
abbrev pub invariant-loop-col : goal.invariant-loop-col
invariant-loop-col g l =
    let r = rules_by l.self.asked.now in
    let t = g.T.Lines.lines l.self.lines.now in
    record {
      from : l.self.at.col ≤ l.col;
      quiet : (c : ℕ) → l.self.at.col ≤ c → c < l.col → IsQuietAt r t l.choice l.self.floor l.looked (place_at l.self.at.line c);
      may : MayAsk g.T.Lines.lines l.self l.memory;
    }

use Rattle.item_pick.proofs.Common.{subst, reverse, List, IfOk, Some, IfOk-weaker, ItemId, Painted, looked_first, Cause, Picked, picked, rules_by, IsPicked, here_at, standing_at, IsToldAs, IsOutcomeThere, here_of, seen_pick}
use Rattle.item_pick.proofs.memory.PickMemory.pick.Goals as goal

pub returns-clause-picked : goal.returns-clause-picked
returns-clause-picked g c =
    let q = c.args.query.now in
    let r = rules_by q.asked.now in
    let state = q.state.now in
    let is = c.picking-picking.ensures in
    let here = here_at r (g.T.Lines.lines q.lines.now) q.at in
    let picks : List ItemId → Painted Cause Picked =
    λ tried. picked here q.at.col (standing_at (reverse state.stack) state.waiting q.floor (reverse tried)) in
    IfOk-weaker c.picked_of.result _ _ (λ p h _. h)
    (subst (λ (tried : List ItemId). IfOk c.picked_of.result (λ p. IsPicked r.items p (looked_first (Some q.looked) (picks tried)))) c.in_ok-tried.ensures
    (c.picked_of.ensures r.items q.looked (picks c.in_ok-tried.tried)
    (subst (λ p. IsToldAs (seen_pick p.asked.now.parts.now.items.now) q.looked c.pick-outcome.result c.pick-outcome.new.looked
    (picked (here_of g.T.Lines.lines p) p.at.col (standing_at (reverse state.stack) state.waiting p.floor (reverse p.tried.now)))) is c.pick-outcome.ensures.told)
    (subst (λ p. IfOk c.pick-outcome.result (IsOutcomeThere p.asked.now.parts.now.items.now)) is c.pick-outcome.ensures.there)))

use Rattle.line_paint.proofs.Common.{◌≡◌, ◌∙◌, ap, ℕ, arith, err_from_is_err_and, Some, looked_first, turns, standing_of, turn, More}
use Rattle.line_paint.proofs.TurnLaws.{at_after, turn_on, turn_ends, turn_stops}
use Rattle.line_paint.proofs.standing.Standing.turns.Goals as goal

pub turns-preserved : goal.turns-preserved
turns-preserved g c =
    let h = g.S.Site.here c.args.site.now in
    let leads = rw c.if-not-branch.false at c.in_ok-turn.ensures.leads in
    record {
      whole = turn_on h c.args.c c.turns.left _ _ _ _ c.turns-test.true c.turns.invariant.whole _
          (standing_of c.turn.new.self) leads;
      at = at_after h c.args.c c.turns.self c.turn.new.self
          (turn h c.args.c (standing_of c.turns.self)) (More (standing_of c.turn.new.self))
          c.turns.invariant.at c.in_ok-turn.ensures.stands leads;
      memory = c.turn.ensures.memory;
    }

pub returns-clause-leads : goal.returns-clause-leads
returns-clause-leads g c =
    let h = g.S.Site.here c.args.site.now in
    let none : c.turns.left ≡ 0 = omega (arith, c.turns-test.false) in
    c.turns.invariant.whole
    ∙ ap (λ (n : ℕ). looked_first (Some (c.turns.self).looked)
    (turns n h c.args.c (standing_of c.turns.self))) none

pub returns-then-not-branch-clause-leads : goal.returns-then-not-branch-clause-leads
returns-then-not-branch-clause-leads g c =
    let leads = rw c.if-not-branch.true at c.in_ok-turn.ensures.leads in
    turn_ends (g.S.Site.here c.args.site.now) c.args.c c.turns.left _ _ _ _ c.turns-test.true
    c.turns.invariant.whole _ (standing_of c.turn.new.self) leads

pub returns-in_err-turn-clause-leads : goal.returns-in_err-turn-clause-leads
returns-in_err-turn-clause-leads g c =
    let q = err_from_is_err_and c.from_residual.result c.from_residual.ensures.1 in
    rw (q.1, q.2) (turn_stops (g.S.Site.here c.args.site.now) c.args.c c.turns.left _ _ _ _
    c.turns-test.true c.turns.invariant.whole c.in_err-turn.field-0.0 c.in_err-turn.ensures.leads)

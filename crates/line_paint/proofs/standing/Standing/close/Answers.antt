use Rattle.line_paint.proofs.Common.{err_from_is_err_and, standing_of}
use Rattle.line_paint.proofs.StandingLaws.{step_on, step_stays, step_stops}
use Rattle.line_paint.proofs.standing.Standing.close.Goals as goal

pub steps-preserved : goal.steps-preserved
steps-preserved g c = record {
  whole = step_on (g.S.Site.here c.args.site.now) c.args.c c.steps.left _ _ _ _ c.steps-test.true
      c.steps.invariant.whole _ (standing_of c.closes.new.self)
      (rw c.if-not-branch.false at c.in_ok-closes.ensures.leads);
  stands = c.in_ok-closes.ensures.stands;
  memory = c.closes.ensures.memory;
}

pub returns-then-not-branch-clause-leads : goal.returns-then-not-branch-clause-leads
returns-then-not-branch-clause-leads g c =
    let stays = rw c.if-not-branch.true at c.in_ok-closes.ensures.leads in
    step_stays (g.S.Site.here c.args.site.now) c.args.c c.steps.left _ _ _ _ c.steps-test.true
    c.steps.invariant.whole _ (standing_of c.closes.new.self) stays.0 stays.1

pub returns-in_err-closes-clause-leads : goal.returns-in_err-closes-clause-leads
returns-in_err-closes-clause-leads g c =
    let q = err_from_is_err_and c.from_residual.result c.from_residual.ensures.1 in
    rw (q.1, q.2) (step_stops (g.S.Site.here c.args.site.now) c.args.c c.steps.left _ _ _ _
    c.steps-test.true c.steps.invariant.whole c.in_err-closes.field-0.0
    c.in_err-closes.ensures.leads)

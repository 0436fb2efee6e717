use Rattle.region_ends.proofs.Common.{◌-◌, ◌∙◌, arith, ap, reverse, sym, subst, take, Some, Attempt, RegionEnd, Done, looked_first, refusal_of, TooCostly, tried_at, refusal_bind, search_in, IsTried}
use Rattle.region_ends.proofs.SearchLaws.{after_try, turn}
use Rattle.region_ends.proofs.passing.Walk.ends_at.Goals as goal

pub ends-preserved : goal.ends-preserved
ends-preserved g c =
    let a = c.args.self.now in
    let s = search_in a.search (g.T.Lines.lines c.args.lines.now) in
    let pattern = c.get-pattern.result.now in
    let h = subst (λ (t : Attempt). IsTried t a.search.region (looked_first (Some c.ends.seen) (tried_at s pattern c.args.c))) c.in-Absent.is c.in_ok-m.ensures in
    record {
      whole = c.ends.invariant.whole
          ∙ (turn s c.args.c c.ends.seen a.ends.now c.ends.left pattern (omega (arith, c.ends-test.true)) c.ends.invariant.within c.get-pattern.ensures
          ∙ ap (after_try s pattern (reverse (take (c.ends.left - 1) a.ends.now)) c.args.c) h);
      within = omega (arith, c.ends.invariant.within);
    }

pub returns-in-Found : goal.returns-in-Found
returns-in-Found g c =
    let a = c.args.self.now in
    let s = search_in a.search (g.T.Lines.lines c.args.lines.now) in
    let pattern = c.get-pattern.result.now in
    let h = subst (λ (t : Attempt). IsTried t a.search.region (looked_first (Some c.ends.seen) (tried_at s pattern c.args.c))) c.in-Found.is c.in_ok-m.ensures in
    c.ends.invariant.whole
    ∙ (turn s c.args.c c.ends.seen a.ends.now c.ends.left pattern (omega (arith, c.ends-test.true)) c.ends.invariant.within c.get-pattern.ensures
    ∙ (ap (after_try s pattern (reverse (take (c.ends.left - 1) a.ends.now)) c.args.c) h
    ∙ ap (λ (e : RegionEnd). Done (Some e) (Some c.in-Found.k)) (sym c.end_made.ensures)))

pub returns-in-TooCostly : goal.returns-in-TooCostly
returns-in-TooCostly g c =
    let a = c.args.self.now in
    let s = search_in a.search (g.T.Lines.lines c.args.lines.now) in
    let pattern = c.get-pattern.result.now in
    let h = subst (λ (t : Attempt). IsTried t a.search.region (looked_first (Some c.ends.seen) (tried_at s pattern c.args.c))) c.in-TooCostly.is c.in_ok-m.ensures in
    ap refusal_of (c.ends.invariant.whole ∙ turn s c.args.c c.ends.seen a.ends.now c.ends.left pattern (omega (arith, c.ends-test.true)) c.ends.invariant.within c.get-pattern.ensures)
    ∙ refusal_bind (TooCostly a.search.region) _ _ (refusal_bind (TooCostly a.search.region) _ _ h)

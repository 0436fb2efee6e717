use Rattle.region_ends.proofs.Common.{arith, subst, rules, IsStep}
use Rattle.region_ends.proofs.StretchLaws.{answered, begun, none_found, passed, stepped}
use Rattle.region_ends.proofs.passing.Walk.search.Goals as goal

pub columns-smaller : goal.columns-smaller
columns-smaller g c =
    let step = subst (IsStep c.args.self.now (g.T.Lines.lines c.args.lines.now) c.columns.looked c.idle_until-busy.result) c.in-GoOn.is c.in_ok-next.ensures in
    omega (arith, step.further, step.within, c.idle_until-busy.ensures.from, c.columns-test.true)

pub columns-init : goal.columns-init
columns-init g c = record {
  shut = c.requires.shut;
  before = λ d marked. marked;
  reached = begun c.args.self.now (g.T.Lines.lines c.args.lines.now) c.requires.walk c.args.jumped.now c.one-looked.result (search rules);
}

pub columns-preserved : goal.columns-preserved
columns-preserved g c =
    let a = c.args.self.now in
    let text = g.T.Lines.lines c.args.lines.now in
    let idle = c.idle_until-busy.ensures in
    let busy = c.idle_until-busy.result in
    let looked = c.columns.looked in
    let step = subst (IsStep a text looked busy) c.in-GoOn.is c.in_ok-next.ensures in
    record {
      shut = idle.answers;
      before = λ d marked. c.mark_between.ensures.before d (c.columns.invariant.before d marked);
      reached = stepped a text c.requires.walk c.columns.jumped c.mark_between.new.jumped looked c.in-GoOn.k c.columns.first busy c.in-GoOn.next c.first_of-first.result
          (passed a text c.requires.walk c.columns.jumped looked c.columns.first c.columns.c busy c.columns.invariant.reached idle.from idle.within idle.idle) step c.first_of-first.ensures
          c.mark_between.ensures.before c.in_ok-mark_between-in-GoOn.ensures.between;
    }

pub returns-then-busy-last-clause-searched : goal.returns-then-busy-last-clause-searched
returns-then-busy-last-clause-searched g c =
    let a = c.args.self.now in
    let text = g.T.Lines.lines c.args.lines.now in
    let idle = c.idle_until-busy.ensures in
    let busy = c.idle_until-busy.result in
    none_found a text c.requires.walk c.columns.jumped c.columns.looked c.columns.first busy
    (passed a text c.requires.walk c.columns.jumped c.columns.looked c.columns.first c.columns.c busy c.columns.invariant.reached idle.from idle.within idle.idle) c.if-busy-last.true

pub returns-in-Answer-clause-searched : goal.returns-in-Answer-clause-searched
returns-in-Answer-clause-searched g c =
    let a = c.args.self.now in
    let text = g.T.Lines.lines c.args.lines.now in
    let idle = c.idle_until-busy.ensures in
    let busy = c.idle_until-busy.result in
    let looked = c.columns.looked in
    answered a text c.requires.walk c.columns.jumped looked c.columns.first busy _ c.in-Answer.answer
    (passed a text c.requires.walk c.columns.jumped looked c.columns.first c.columns.c busy c.columns.invariant.reached idle.from idle.within idle.idle) (omega arith)
    (subst (IsStep a text looked busy) c.in-Answer.is c.in_ok-next.ensures)

pub returns-clause-searched : goal.returns-clause-searched
returns-clause-searched g c =
    none_found c.args.self.now (g.T.Lines.lines c.args.lines.now) c.requires.walk c.columns.jumped c.columns.looked c.columns.first c.columns.c c.columns.invariant.reached c.columns-test.false

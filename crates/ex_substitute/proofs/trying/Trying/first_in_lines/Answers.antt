use Rattle.std.proofs.Common.{◌-◌, ◌∙◌, sym}
use Rattle.std.proofs.lemmas.Result.{err_from_is_err_and}
use Rattle.ex_substitute.specs.Trials.{counts_of, trial_in}
use Rattle.ex_substitute.specs.Trying.{first_of, places_of}
use Rattle.ex_substitute.proofs.TryLaws.{line-passed, found-in-line, refused-in-line, no-line-left}
use Rattle.ex_substitute.proofs.trying.Trying.first_in_lines.Goals as goal

pub returns-in_err-found-clause-found : goal.returns-in_err-found-clause-found
returns-in_err-found-clause-found g c =
    let text = g.T.Lines.lines c.args.lines.now in
    let t = trial_in text c.args.self.now in
    let p = err_from_is_err_and c.from_residual.result c.from_residual.ensures.1 in
    rw (p.1, p.2) (refused-in-line t (counts_of c.args.wanted) c.loop-line.line c.args.b
    (first_of t (counts_of c.args.wanted) (places_of text c.args.from (c.args.b - c.args.from))) c.in_err-found.field-0.0
    c.loop-line-test.true c.loop-line.invariant.rest c.in_err-found.ensures.found)

pub returns-then-is_some-clause-found : goal.returns-then-is_some-clause-found
returns-then-is_some-clause-found g c =
    let t = trial_in (g.T.Lines.lines c.args.lines.now) c.args.self.now in
    sym c.loop-line.invariant.rest
    ∙ found-in-line t (counts_of c.args.wanted) c.loop-line.line c.args.b c.in_ok-found.found c.loop-line-test.true c.in_ok-found.ensures.found (sym c.if-is_some.ensures)

pub loop-line-preserved : goal.loop-line-preserved
loop-line-preserved g c =
    let t = trial_in (g.T.Lines.lines c.args.lines.now) c.args.self.now in record {
      rest = sym (line-passed t (counts_of c.args.wanted) c.loop-line.line c.args.b c.in_ok-found.found c.loop-line-test.true c.in_ok-found.ensures.found (sym c.if-is_some.ensures))
          ∙ c.loop-line.invariant.rest;
    }

pub returns-clause-found : goal.returns-clause-found
returns-clause-found g c =
    let t = trial_in (g.T.Lines.lines c.args.lines.now) c.args.self.now in
    sym c.loop-line.invariant.rest ∙ no-line-left t (counts_of c.args.wanted) c.loop-line.line c.args.b c.loop-line-test.false

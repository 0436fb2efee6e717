use Rattle.std.proofs.Common.{arith}
use Rattle.std.proofs.lemmas.Result.{err_from_is_err_and}
use Rattle.state_cache.proofs.StretchLaws.{begins, counted, counts, further, over, passes, refused}
use Rattle.state_cache.proofs.edit.Edit.old_lines.Goals as goal

pub lines-init : goal.lines-init
lines-init g c = record {
  goes = begins c.args.self.now c.requires.sound c.args.stretch c.args.given c.args.done.now c.args.steps.now
      c.requires.ordered c.requires.below c.requires.fits c.requires.patches;
  tables = c.requires.memory;
}

pub lines-preserved : goal.lines-preserved
lines-preserved g c = record {
  goes = passes c.args.self.now c.requires.sound c.args.stretch c.args.given c.args.done.now c.args.steps.now c.requires.were c.requires.inside
      c.lines.j c.lines.state c.lines.done c.lines.steps c.lines.invariant.goes
      c.passed-j.result c.passed-j.ensures.from c.passed-j.ensures.to c.passed-j.ensures.passes;
  tables = c.lines.invariant.tables;
}

pub lines-preserved-then-j-to : goal.lines-preserved-then-j-to
lines-preserved-then-j-to g c =
    let at = passes c.args.self.now c.requires.sound c.args.stretch c.args.given c.args.done.now c.args.steps.now c.requires.were c.requires.inside
    c.lines.j c.lines.state c.lines.done c.lines.steps c.lines.invariant.goes
    c.passed-j.result c.passed-j.ensures.from c.passed-j.ensures.to c.passed-j.ensures.passes in
    record {
      goes = further c.args.self.now c.requires.sound c.args.stretch c.args.given c.args.done.now c.args.steps.now c.requires.were c.requires.inside
          c.passed-j.result c.lines.state c.lines.done c.lines.steps at (omega arith)
          c.in_ok-state.state c.old_line.new.done c.old_line.new.steps c.in_ok-state.ensures.went c.in_ok-state.ensures.fits c.in_ok-state.ensures.patches c.in_ok-state.ensures.steps;
      tables = c.in_ok-state.ensures.memory;
    }

pub old_line-requires-clause-was : goal.old_line-requires-clause-was
old_line-requires-clause-was g c =
    let at = passes c.args.self.now c.requires.sound c.args.stretch c.args.given c.args.done.now c.args.steps.now c.requires.were c.requires.inside
    c.lines.j c.lines.state c.lines.done c.lines.steps c.lines.invariant.goes
    c.passed-j.result c.passed-j.ensures.from c.passed-j.ensures.to c.passed-j.ensures.passes in
    c.requires.were c.passed-j.result at.from (omega arith)

pub old_line-requires-clause-below : goal.old_line-requires-clause-below
old_line-requires-clause-below g c =
    let at = passes c.args.self.now c.requires.sound c.args.stretch c.args.given c.args.done.now c.args.steps.now c.requires.were c.requires.inside
    c.lines.j c.lines.state c.lines.done c.lines.steps c.lines.invariant.goes
    c.passed-j.result c.passed-j.ensures.from c.passed-j.ensures.to c.passed-j.ensures.passes in
    at.below

pub returns-in_err-state-clause-refused : goal.returns-in_err-state-clause-refused
returns-in_err-state-clause-refused g c =
    let at = passes c.args.self.now c.requires.sound c.args.stretch c.args.given c.args.done.now c.args.steps.now c.requires.were c.requires.inside
    c.lines.j c.lines.state c.lines.done c.lines.steps c.lines.invariant.goes
    c.passed-j.result c.passed-j.ensures.from c.passed-j.ensures.to c.passed-j.ensures.passes in
    let p = err_from_is_err_and c.from_residual.result c.from_residual.ensures.1 in
    rw (p.1, p.2) (refused c.args.self.now c.requires.sound c.args.stretch c.args.given c.args.done.now c.args.steps.now c.requires.were c.requires.inside
    c.passed-j.result c.lines.state c.lines.done c.lines.steps at (omega arith) _ c.in_err-state.ensures.refused)

pub returns-in_err-state-clause-steps : goal.returns-in_err-state-clause-steps
returns-in_err-state-clause-steps g c =
    let at = passes c.args.self.now c.requires.sound c.args.stretch c.args.given c.args.done.now c.args.steps.now c.requires.were c.requires.inside
    c.lines.j c.lines.state c.lines.done c.lines.steps c.lines.invariant.goes
    c.passed-j.result c.passed-j.ensures.from c.passed-j.ensures.to c.passed-j.ensures.passes in
    counts c.args.self.now c.requires.sound c.args.stretch c.args.given c.args.done.now c.args.steps.now c.requires.were c.requires.inside
    c.passed-j.result c.lines.state c.lines.done c.lines.steps at (omega arith) _ c.in_err-state.ensures.steps

pub returns-clause-over : goal.returns-clause-over
returns-clause-over g c =
    over c.args.self.now c.requires.sound c.args.stretch c.args.given c.args.done.now c.args.steps.now
    c.lines.j c.lines.state c.lines.done c.lines.steps (omega arith) c.lines.invariant.goes

pub returns-clause-steps : goal.returns-clause-steps
returns-clause-steps g c =
    counted c.args.self.now c.requires.sound c.args.stretch c.args.given c.args.done.now c.args.steps.now
    c.lines.j c.lines.state c.lines.done c.lines.steps c.lines.invariant.goes

use Rattle.std.proofs.Common.{arith}
use Rattle.std.proofs.lemmas.List.Elements.{All-nil}
use Rattle.std.proofs.lemmas.Result.{err_from_is_err_and}
use Rattle.chunk_list.proofs.ReplacedLaws.{length-replaced}
use Rattle.state_cache.proofs.NewLaws.{begins, counted, counts, further, is_fresh, over, refused}
use Rattle.state_cache.proofs.edit.Edit.new_lines.Goals as goal

pub loop-i-init : goal.loop-i-init
loop-i-init g c = record {
  goes = begins c.args.self.now c.args.given c.args.report.now c.args.steps.now c.args.fresh.now c.requires.empty c.requires.fits (rw c.requires.empty (All-nil _));
  tables = c.requires.memory;
}

pub new_line-requires-clause-present : goal.new_line-requires-clause-present
new_line-requires-clause-present g c =
    let s = c.args.self.now.changed in
    let n = length-replaced s.text.now.lines s.a s.b s.new.now s.ordered (omega (arith, s.whole)) in
    omega (arith, n)

pub new_line-requires-clause-is_new : goal.new_line-requires-clause-is_new
new_line-requires-clause-is_new g c =
    is_fresh c.args.self.now c.args.given c.args.report.now c.args.steps.now c.loop-i.i c.loop-i.state c.loop-i.fresh c.loop-i.report c.loop-i.steps (omega arith) c.loop-i.invariant.goes

pub loop-i-preserved : goal.loop-i-preserved
loop-i-preserved g c = record {
  goes = further c.args.self.now c.args.given c.args.report.now c.args.steps.now c.loop-i.i c.loop-i.state c.loop-i.fresh c.loop-i.report c.loop-i.steps (omega arith) c.loop-i.invariant.goes
      c.in_ok-state.state c.new_line.new.fresh c.new_line.new.report c.new_line.new.steps c.in_ok-state.ensures.went c.in_ok-state.ensures.fits c.in_ok-state.ensures.fresh c.in_ok-state.ensures.steps;
  tables = c.in_ok-state.ensures.memory;
}

pub returns-in_err-state-clause-refused : goal.returns-in_err-state-clause-refused
returns-in_err-state-clause-refused g c =
    let p = err_from_is_err_and c.from_residual.result c.from_residual.ensures.1 in
    rw (p.1, p.2) (refused c.args.self.now c.args.given c.args.report.now c.args.steps.now c.loop-i.i c.loop-i.state c.loop-i.fresh c.loop-i.report c.loop-i.steps (omega arith) c.loop-i.invariant.goes _ c.in_err-state.ensures.refused)

pub returns-in_err-state-clause-steps : goal.returns-in_err-state-clause-steps
returns-in_err-state-clause-steps g c =
    counts c.args.self.now c.args.given c.args.report.now c.args.steps.now c.loop-i.i c.loop-i.state c.loop-i.fresh c.loop-i.report c.loop-i.steps (omega arith) c.loop-i.invariant.goes _ c.in_err-state.ensures.steps

pub returns-clause-over : goal.returns-clause-over
returns-clause-over g c =
    over c.args.self.now c.args.given c.args.report.now c.args.steps.now c.loop-i.i c.loop-i.state c.loop-i.fresh c.loop-i.report c.loop-i.steps (omega arith) c.loop-i.invariant.goes

pub returns-clause-steps : goal.returns-clause-steps
returns-clause-steps g c =
    counted c.args.self.now c.args.given c.args.report.now c.args.steps.now c.loop-i.i c.loop-i.state c.loop-i.fresh c.loop-i.report c.loop-i.steps c.loop-i.invariant.goes

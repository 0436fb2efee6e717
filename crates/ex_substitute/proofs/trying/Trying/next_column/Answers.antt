use Rattle.std.proofs.Common.{arith}
use Rattle.ex_substitute.proofs.CandidateLaws.{vain-none, vain-step}
use Rattle.ex_substitute.proofs.trying.Trying.next_column.Goals as goal

pub columns-init : goal.columns-init
columns-init c = record { from = omega arith; passed = vain-none c.args.self.now c.args.line.now c.args.from }

pub columns-preserved : goal.columns-preserved
columns-preserved c = record {
  from = omega (arith, c.columns.invariant.from);
  passed = vain-step c.args.self.now c.args.line.now c.args.from c.columns.col c.columns.invariant.passed
      (c.is_candidate.ensures c.if-is_candidate.false);
}

use Rattle.std.proofs.Common.{subst, sym}
use Rattle.paint_rules.specs.States as rule
use Rattle.paint_rules.specs.States.{StateFits, next_line}
use Rattle.state_stack.specs.TopFirst.{top_first}
use Rattle.state_stack.proofs.StateLaws.{next_is, next_fits}
use Rattle.state_stack.proofs.state.State.to_next_line.Goals as goal

pub returns-clause-next : goal.returns-clause-next
returns-clause-next c = next_is c.args.self.now (record { stack = c.in_ok-stack.stack; waiting = c.stale.result }) c.in_ok-stack.ensures c.stale.ensures

pub returns-clause-fits : goal.returns-clause-fits
returns-clause-fits c n h =
    subst (λ (s : rule.State). StateFits n s) (sym (next_is c.args.self.now (record { stack = c.in_ok-stack.stack; waiting = c.stale.result }) c.in_ok-stack.ensures c.stale.ensures))
    (next_fits n (top_first c.args.self.now) h)

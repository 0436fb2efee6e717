-- A state as the rules of painting see it: there a stack stands with its top first.
use Rattle.std.specs.Prelude.{reverse}
use Rattle.paint_rules.specs.States as rule
use Rattle.state_stack.specs.declared.state.State.{State}

abbrev pub top_first : State → rule.State
top_first s = record { stack = reverse s.stack; waiting = s.waiting }

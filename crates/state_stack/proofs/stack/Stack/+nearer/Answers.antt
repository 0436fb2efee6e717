use Rattle.std.proofs.Common.{◌≡◌, ◌∙◌, sym, ap, true}
use Rattle.state_stack.specs.Settled.{all_settled}
use Rattle.state_stack.proofs.SettledLaws.{all_stay}
use Rattle.state_stack.proofs.stack.Stack.+nearer.Goals as goal

pub returns-then-self : goal.returns-then-self
returns-then-self t c =
    let settled : all_settled c.args.self.now ≡ true = sym (ap all_settled c.self.view_is) ∙ (sym c.self.invariant.2 ∙ c.if-self.true) in
    rw (all_stay c.args.self.now settled) c.copy.ensures

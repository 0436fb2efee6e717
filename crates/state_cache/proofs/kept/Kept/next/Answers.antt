use Rattle.std.proofs.Common.{sym, subst, ℕ}
use Rattle.std.proofs.lemmas.Result.{IfOk-weaker}
use Rattle.paint_reuse.specs.Kept.{KeptNote}
use Rattle.paint_rules.specs.States.{StateFits}
use Rattle.state_stack.specs.declared.state.State.{State}
use Rattle.state_stack.specs.TopFirst.{top_first}
use Rattle.state_cache.proofs.kept.Kept.next.Goals as goal

pub returns-clause-fits : goal.returns-clause-fits
returns-clause-fits c =
    IfOk-weaker c.to_next_line.result
    (λ (s : State). (n : ℕ) → StateFits n (top_first c.self.inside.note.after) → StateFits n (top_first s))
    (λ (s : State). (n : ℕ) → StateFits n c.args.self.now.after → StateFits n (top_first s))
    (λ s h n f. h n (subst (λ (k : KeptNote). StateFits n k.after) (sym c.self.view_is) f))
    c.to_next_line.ensures.fits

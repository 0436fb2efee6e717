-- The test of two states of the code is that of the rules.
use Rattle.std.proofs.Common.{◌≡◌, ◌∙◌, sym, ap, refl, reverse, Bool, true, false}
use Rattle.std.specs.Prelude.{IsTrue, ◌↔◌}
use Rattle.std.proofs.lemmas.List.{reverse-reverse}
use Rattle.paint_reuse.specs.SameState.{same_state}
use Rattle.paint_reuse.proofs.SameStates.{equal_states}
use Rattle.paint_rules.specs.States as rule
use Rattle.state_stack.specs.declared.state.State.{State}
use Rattle.state_stack.specs.TopFirst.{top_first}

from_top : (s t : State) → top_first s ≡ top_first t → s ≡ t
from_top s t e =
    let stack = sym (reverse-reverse s.stack) ∙ ap (λ (x : rule.State). reverse x.stack) e ∙ reverse-reverse t.stack in
    let waiting = ap (λ (x : rule.State). x.waiting) e in
    λ i. record { stack = stack i; waiting = waiting i }

pub same_as : (s t : State) (b : Bool) → (IsTrue b ↔ (s ≡ t)) → b ≡ same_state (top_first s) (top_first t)
same_as s t true h = sym ((equal_states (top_first s) (top_first t)).1 (ap top_first (h.0 refl)))
same_as s t false h = by (same_state (top_first s) (top_first t)) refl
  where
    by : (c : Bool) → same_state (top_first s) (top_first t) ≡ c → false ≡ same_state (top_first s) (top_first t)
    by true e = h.1 (from_top s t ((equal_states (top_first s) (top_first t)).0 e)) ∙ sym e
    by false e = sym e

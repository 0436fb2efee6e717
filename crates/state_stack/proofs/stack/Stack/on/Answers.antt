use Rattle.std.proofs.Common.{◌≡◌, ◌∙◌, true, sym, ap, subst, arith, length, length-append, []}
use Rattle.std.specs.Prelude.{◌&&◌, ◌∷◌}
use Rattle.state_stack.specs.Settled.{all_settled, is_settled}
use Rattle.state_stack.specs.Enders.{have_enders}
use Rattle.state_stack.proofs.SettledLaws.{all_settled_on}
use Rattle.state_stack.proofs.EnderLaws.{have_enders_on}
use Rattle.state_stack.proofs.stack.Stack.on.Goals as goal
use Rattle.state_stack.proofs.stack.Stack.on.Goals.{then-below, else-below}

pub invariant_of-result : goal.invariant_of-result
invariant_of-result c =
    let counted : c.below.inside.len ≡ length c.args.below = c.below.invariant.0 ∙ ap length c.below.view_is in
    let settled : c.below.inside.settled ≡ all_settled c.args.below = c.below.invariant.2 ∙ ap all_settled c.below.view_is in
    let ended : have_enders c.below.inside.enders c.args.below ≡ true = subst (λ fs. have_enders c.below.inside.enders fs ≡ true) c.below.view_is c.below.invariant.3 in
    let here : c.if-below.settled ≡ (c.below.inside.settled && is_settled c.args.frame) =
    elim c.if-below.branch [
      | then-below w ↦ w.settled-is ∙ (w.is_settled-settled.ensures ∙ ap (λ b. b && is_settled c.args.frame) (sym w.if-below.true))
      | else-below w ↦ w.settled-is ∙ (w.if-below.false ∙ ap (λ b. b && is_settled c.args.frame) (sym w.if-below.false))
    ] in
    rw c.in_ok-node.ensures.ok (
      omega (arith, counted, length-append c.args.below (c.args.frame ∷ [])),
      omega (arith, counted, c.requires),
      here ∙ (ap (λ b. b && is_settled c.args.frame) settled ∙ sym (all_settled_on c.args.below c.args.frame)),
      have_enders_on c.below.inside.enders c.over-enders.result c.over-enders.ensures.kept c.args.below c.args.frame ended c.over-enders.ensures.own,
      c.in_ok-kinds.ensures,
    )

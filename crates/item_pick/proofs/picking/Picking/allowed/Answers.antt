use Rattle.item_pick.proofs.Common.{◌∙◌, sym, ap, subst, reverse, ForSome, is_allowed_in, rules_by, IsItem}
use Rattle.item_pick.proofs.StackLaws.{allowed_within, container_fits, not_allowed}
use Rattle.item_pick.proofs.picking.Picking.allowed.Goals as goal

pub returns-then-is_body-clause-allowed : goal.returns-then-is_body-clause-allowed
returns-then-is_body-clause-allowed g c i =
    let r = rules_by c.args.self.now.asked.now in
    allowed_within r (reverse c.args.stack.now) _ _ c.in-Some.ensures.0 (sym c.is_body.ensures ∙ c.if-is_body.true) i
    ∙ ap (λ o. is_allowed_in r o i) (sym c.container.ensures)

pub returns-then-is_body-clause-fits : goal.returns-then-is_body-clause-fits
returns-then-is_body-clause-fits g c =
    let r = rules_by c.args.self.now.asked.now in
    subst (λ o. ForSome o (IsItem r)) (sym c.container.ensures) (container_fits r (reverse c.args.stack.now) c.requires)

pub returns-else-is_body-clause-allowed : goal.returns-else-is_body-clause-allowed
returns-else-is_body-clause-allowed g c i =
    let r = rules_by c.args.self.now.asked.now in
    not_allowed r (reverse c.args.stack.now) _ _ c.in-Some.ensures.0 (sym c.is_body.ensures ∙ c.if-is_body.false) i

use Rattle.item_pick.proofs.Common.{subst, IfSome, Option, IsAt, Reach}
use Rattle.item_pick.proofs.firsts.Firsts.reach.Goals as goal

pub returns-in-Some-clause-reach : goal.returns-in-Some-clause-reach
returns-in-Some-clause-reach c =
    c.requires.stands.reaches c.args.by.now.item.0 c.in-Some.reach
    (subst (λ (o : Option Reach). IfSome o (IsAt c.args.self.now.reaches c.args.by.now.item.0)) c.in-Some.is c.get.ensures.some)

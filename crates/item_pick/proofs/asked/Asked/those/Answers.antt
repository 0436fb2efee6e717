use Rattle.item_pick.proofs.Common.{below_more, arith, rules_in}
use Rattle.item_pick.proofs.SettledLaws.{has_those}
use Rattle.item_pick.proofs.asked.Asked.those.Goals as goal

pub loop-id-preserved : goal.loop-id-preserved
loop-id-preserved c =
    below_more _ _ (λ k h within is lacks. c.loop-id.invariant k h within is (c.put_if.ensures.kept _ lacks)) c.in_ok-put_if.ensures.here

pub returns : goal.returns
returns c =
    has_those (rules_in c.args.self.now.parts.now c.args.self.now.budget) c.args.wandering c.args.list.now _
    (λ k h. c.loop-id.invariant k (omega (arith, h, c.loop-id-test.false)))

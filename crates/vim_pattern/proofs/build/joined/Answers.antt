use Rattle.vim_pattern.proofs.Joined.{joined_pop}
use Rattle.vim_pattern.proofs.build.joined.Goals as goal

pub loop-before-preserved : goal.loop-before-preserved
loop-before-preserved c = joined_pop _ _ c.in-Some-pop.before c.loop-before.node c.in_ok-node.node c.in-Some-pop.ensures.items c.args.how _ c.in_ok-node.ensures c.loop-before.invariant

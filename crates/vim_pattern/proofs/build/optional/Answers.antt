use Rattle.std.proofs.Common.{◌∙◌, ap}
use Rattle.vim_pattern.specs.Shape.{at_most_once}
use Rattle.vim_pattern.proofs.Joined.{optional_pop, optional_start}
use Rattle.vim_pattern.proofs.build.optional.Goals as goal

pub loop-before-init : goal.loop-before-init
loop-before-init c = optional_start _ _ c.in-Some.last c.in-Some.last c.in_ok-node.node c.in-Some.ensures.items c.in_ok-node.ensures

pub loop-before-preserved : goal.loop-before-preserved
loop-before-preserved c = optional_pop _ _ c.in-Some-pop.before c.loop-before.node c.in_ok-node-2.node c.in-Some-pop.ensures.items _ (c.in_ok-node-2.ensures ∙ ap (λ x. at_most_once x) c.in_ok-pair.ensures) c.loop-before.invariant

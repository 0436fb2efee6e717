use Rattle.std.proofs.Common.{vec_len}
use Rattle.pattern_match.specs.Steps.{shape_of}
use Rattle.pattern_match.specs.LastParts.{all_over}
use Rattle.pattern_match.specs.StandsFor.{StandsFor}
use Rattle.pattern_match.proofs.ready.put_all_over.Given as goal

-- the parts to come, over the node so far, stand for the whole
abbrev pub invariant-loop-above : goal.invariant-loop-above
invariant-loop-above l =
    StandsFor (all_over l.all.items (shape_of l.made.step)) (all_over l.fn.all.items (shape_of l.fn.leaf.step))

abbrev pub decreases-loop-above : goal.decreases-loop-above
decreases-loop-above l = vec_len l.all

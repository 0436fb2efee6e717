use Rattle.std.proofs.Common.{◌≡◌, vec_len}
use Rattle.vim_pattern.specs.Shape.{bare, optional_of}
use Rattle.vim_pattern.specs.Built.{bares}
use Rattle.vim_pattern.proofs.Joined.{optional_with}
use Rattle.vim_pattern.proofs.build.optional.Given as goal

abbrev pub invariant-loop-before : goal.invariant-loop-before
invariant-loop-before l = optional_with (bares l.nodes.items) (bare l.node) ≡ optional_of (bares l.fn.nodes.items)

abbrev pub decreases-loop-before : goal.decreases-loop-before
decreases-loop-before l = vec_len l.nodes

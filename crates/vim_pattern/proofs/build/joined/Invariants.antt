use Rattle.std.proofs.Common.{◌≡◌, ◌++◌, [], ◌∷◌, vec_len}
use Rattle.vim_pattern.specs.Shape.{bare, joined}
use Rattle.vim_pattern.specs.Built.{bares, pair_of}
use Rattle.vim_pattern.proofs.build.joined.Given as goal

abbrev pub invariant-loop-before : goal.invariant-loop-before
invariant-loop-before l = joined (pair_of l.how) (bares l.nodes.items ++ (bare l.node ∷ [])) ≡ joined (pair_of l.how) (bares l.fn.nodes.items)

abbrev pub decreases-loop-before : goal.decreases-loop-before
decreases-loop-before l = vec_len l.nodes

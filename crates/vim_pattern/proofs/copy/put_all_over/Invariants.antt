use Rattle.std.proofs.Common.{◌≡◌, vec_len}
use Rattle.vim_pattern.specs.Shape.{bare}
use Rattle.vim_pattern.specs.Copied.{all_over}
use Rattle.vim_pattern.proofs.copy.put_all_over.Given as goal

abbrev pub invariant-loop-above : goal.invariant-loop-above
invariant-loop-above l = all_over l.all.items (bare l.node) ≡ all_over l.fn.all.items (bare l.fn.node)

abbrev pub decreases-loop-above : goal.decreases-loop-above
decreases-loop-above l = vec_len l.all

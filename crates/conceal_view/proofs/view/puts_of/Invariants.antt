use Rattle.std.proofs.Common.{◌≡◌, take, map}
use Rattle.conceal_view.specs.View.{block_at}
use Rattle.conceal_view.proofs.view.puts_of.Given as goal

abbrev pub invariant-loop-mark : goal.invariant-loop-mark
invariant-loop-mark l = l.puts.items ≡ map (block_at l.items l.level) (take l.mark-index l.marks)

use Rattle.std.proofs.Common.{◌≡◌, ◌+◌, length}
use Rattle.pattern_items.specs.Vain.{plain_after, plain_close}
use Rattle.pattern_items.proofs.vain.plain_close.Given as goal

abbrev pub invariant-loop-c : goal.invariant-loop-c
invariant-loop-c l = record {
  same : plain_after l.count l.rest ≡ plain_close l.text;
  within : l.count + length l.rest ≡ length l.text;
}

abbrev pub decreases-loop-c : goal.decreases-loop-c
decreases-loop-c l = length l.rest

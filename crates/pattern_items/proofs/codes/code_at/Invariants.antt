use Rattle.std.proofs.Common.{◌≡◌, ◌+◌, ◌≤◌, length}
use Rattle.pattern_items.specs.Codes.{code, code_after}
use Rattle.pattern_items.proofs.codes.code_at.Given as goal

-- what is still to come completes the code of the whole text
abbrev pub invariant-loop-c : goal.invariant-loop-c
invariant-loop-c l = record {
  same : code_after l.notation l.code l.rest ≡ code l.notation l.text;
  small : l.code.value ≤ 9999999999;
  within : l.code.count + length l.rest ≡ length l.text;
}

abbrev pub decreases-loop-c : goal.decreases-loop-c
decreases-loop-c l = length l.rest

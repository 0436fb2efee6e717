use Rattle.std.proofs.Common.{◌≡◌, length, take, sum_by}
use Rattle.vimsyn_cli.proofs.sheet.span_count.Given as goal

-- the spans of the lines so far
abbrev pub invariant-loop-number : goal.invariant-loop-number
invariant-loop-number l = l.count ≡ sum_by length (take l.number l.painted.spans)

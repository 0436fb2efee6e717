use Rattle.std.proofs.Common.{◌≡◌, ◌++◌}
use Rattle.std.specs.Prelude.{replicate}
use Rattle.vimsyn_cli.proofs.folds.push_dashes.Given as goal

-- the dashes so far
abbrev pub invariant-loop-dash : goal.invariant-loop-dash
invariant-loop-dash l = l.out.items ≡ l.initial.out.items ++ replicate l._dash 45

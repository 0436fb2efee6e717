use Rattle.std.proofs.Common.{◌≡◌, take}
use Rattle.std.specs.List.{flat_map}
use Rattle.vimsyn_cli.specs.Folds.{fold_line}
use Rattle.vimsyn_cli.proofs.folds.fold_lines.Given as goal

-- the lines of the folds so far
abbrev pub invariant-loop-fold : goal.invariant-loop-fold
invariant-loop-fold l = l.out.items ≡ flat_map fold_line (take l.fold-index l.found)

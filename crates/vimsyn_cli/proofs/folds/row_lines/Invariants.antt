use Rattle.std.proofs.Common.{◌≡◌, take}
use Rattle.std.specs.List.{flat_map}
use Rattle.vimsyn_cli.specs.Folds.{row_line}
use Rattle.vimsyn_cli.proofs.folds.row_lines.Given as goal

-- the lines of the rows so far
abbrev pub invariant-loop-row : goal.invariant-loop-row
invariant-loop-row l = l.out.items ≡ flat_map (row_line l.painted.text l.close) (take l.row-index l.rows)

use Rattle.std.proofs.Common.{◌≡◌, take}
use Rattle.vimsyn_cli.specs.Folds.{text_levels}
use Rattle.vimsyn_cli.proofs.folds.levels_of.Given as goal

-- the levels of the lines so far
abbrev pub invariant-loop-line : goal.invariant-loop-line
invariant-loop-line l =
    l.levels.items ≡ take l.line (text_levels l.painted.syntax l.painted.budget l.painted.text)

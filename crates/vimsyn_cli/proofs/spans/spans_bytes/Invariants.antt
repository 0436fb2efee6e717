use Rattle.std.proofs.Common.{◌≡◌, ◌++◌, drop}
use Rattle.vimsyn_cli.specs.Printing.{spans_from}
use Rattle.vimsyn_cli.proofs.spans.spans_bytes.Given as goal

-- what was printed, with the lines to come, is the whole text's
abbrev pub invariant-loop-number : goal.invariant-loop-number
invariant-loop-number g l =
    l.out.items ++ spans_from l.groups l.links l.number (drop l.number (g.P.Colours.coloured l.painting))
    ≡ spans_from l.groups l.links 0 (g.P.Colours.coloured l.painting)

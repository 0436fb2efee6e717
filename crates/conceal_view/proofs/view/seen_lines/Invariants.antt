use Rattle.std.proofs.Common.{◌≡◌, ◌++◌, drop}
use Rattle.conceal_view.specs.Seeing.{blocks_by}
use Rattle.conceal_view.specs.View.{seen_lines}
use Rattle.conceal_view.proofs.view.seen_lines.Given as goal

-- what is seen so far, with the lines to come, is the whole view
abbrev pub invariant-loop-line : goal.invariant-loop-line
invariant-loop-line g l =
    l.lines.items ++ seen_lines (blocks_by l.blocks.puts.now) l.blocks.cover (drop l.line (g.P.Lines.lines l.painting)) (drop l.line (g.P.Colours.coloured l.painting))
    ≡ seen_lines (blocks_by l.blocks.puts.now) l.blocks.cover (g.P.Lines.lines l.painting) (g.P.Colours.coloured l.painting)

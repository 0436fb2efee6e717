use Rattle.std.proofs.Common.{◌≡◌, ◌+◌, ◌++◌, drop}
use Rattle.html_writer.specs.Page.{lines_text}
use Rattle.html_writer.proofs.lines.push_lines.Given as goal

-- what was written, with the lines to come, is the whole text
abbrev pub invariant-loop-line : goal.invariant-loop-line
invariant-loop-line g l =
    l.page.items ++ lines_text l.groups l.links l.options l.width (l.line + 1) (drop l.line (g.P.Lines.lines l.painting)) (drop l.line (g.P.Colours.coloured l.painting))
    ≡ l.initial.page.items ++ lines_text l.groups l.links l.options l.width 1 (g.P.Lines.lines l.painting) (g.P.Colours.coloured l.painting)

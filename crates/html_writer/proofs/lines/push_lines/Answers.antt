use Rattle.html_writer.proofs.Appending.{behind}
use Rattle.html_writer.proofs.Further.{written_further}
use Rattle.html_writer.proofs.lines.push_lines.Goals as goal

pub loop-line-preserved : goal.loop-line-preserved
loop-line-preserved g c =
    written_further c.args.groups.now c.args.links.now c.args.options c.width_of-width.result c.loop-line.line
    (g.P.Lines.lines c.args.painting.now) (g.P.Colours.coloured c.args.painting.now) _ _ _ _ _
    c.line-characters.ensures c.spans.ensures
    (behind _ _ _ _ _ (behind _ _ _ _ _ c.in_ok-push_number_if.ensures c.in_ok-push_spanned.ensures) c.in_ok-push_line_end.ensures)
    c.loop-line.invariant

use Rattle.html_writer.proofs.Further.{shown_further}
use Rattle.html_writer.proofs.shown.shown_groups.Goals as goal

pub loop-line-preserved : goal.loop-line-preserved
loop-line-preserved g c =
    shown_further c.args.links.now (g.P.Colours.coloured c.args.painting.now) c.loop-line.line c.spans.result.now _ _ _
    c.spans.ensures c.in_ok-add_shown.ensures c.loop-line.invariant

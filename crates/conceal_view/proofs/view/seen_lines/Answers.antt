use Rattle.std.proofs.Common.{◌+◌, List, [], ◌∷◌, ◌++◌, drop, ap, ◌∙◌}
use Rattle.conceal_view.specs.Cells.{SeenLine}
use Rattle.conceal_view.specs.Seeing.{blocks_by}
use Rattle.conceal_view.specs.View.{Blocks, seen_lines}
use Rattle.conceal_view.proofs.ViewLaws.{one_line_more}
use Rattle.conceal_view.proofs.view.seen_lines.Goals as goal

pub loop-line-preserved : goal.loop-line-preserved
loop-line-preserved g c =
    let blocks : Blocks = blocks_by c.args.blocks.now.puts.now in
    let cover = c.args.blocks.now.cover in
    let lines = g.P.Lines.lines c.args.painting.now in
    let painting = g.P.Colours.coloured c.args.painting.now in
    ap (λ (seen : List SeenLine). seen ++ seen_lines blocks cover (drop (c.loop-line.line + 1) lines) (drop (c.loop-line.line + 1) painting))
    (c.in_ok-push.ensures.items ∙ ap (λ (line : SeenLine). c.loop-line.lines.items ++ line ∷ []) c.in_ok-seen.ensures)
    ∙ one_line_more blocks cover lines painting c.loop-line.line c.line.result.now c.spans.result.now c.loop-line.lines.items
    c.line.ensures c.spans.ensures c.loop-line.invariant

use Rattle.std.proofs.Common.{ap, ◌∙◌}
use Rattle.html_writer.specs.Page.{with_used}
use Rattle.html_writer.proofs.Further.{used_further}
use Rattle.html_writer.proofs.shown.add_shown.Goals as goal

pub loop-span-preserved : goal.loop-span-preserved
loop-span-preserved c =
    used_further c.args.links.now c.args.spans.now c.loop-span.span-index _ c.loop-span-test.true _ _ _
    (c.in_ok-insert.ensures.keys ∙ ap (λ g. with_used c.loop-span.shown.keys g) c.final_group.ensures)
    c.loop-span.invariant

use Rattle.std.proofs.Common.{List, length, map, subst, sym, ap, ◌∙◌, arith}
use Rattle.syn_base.specs.SpansFit.{FitLines}
use Rattle.conceal_view.specs.Cells.{SeenLine}
use Rattle.conceal_view.specs.Seeing.{blocks_by}
use Rattle.conceal_view.specs.View.{block_at, lines_in, spans_in}
use Rattle.conceal_view.proofs.FitLaws.{view_fits}
use Rattle.conceal_view.proofs.ViewLaws.{as_many_views, view_by_marks}
use Rattle.conceal_view.proofs.view.conceal.Goals as goal

pub of-requires-clause-some : goal.of-requires-clause-some
of-requires-clause-some g c =
    let lines = g.P.Lines.lines c.args.painting.now in
    let painting = g.P.Colours.coloured c.args.painting.now in
    let as_many = ap (λ (seen : List SeenLine). length seen) c.in_ok-lines.ensures
    ∙ as_many_views (blocks_by c.as_slice-2.result.now) c.args.cover lines painting c.requires.as_many in
    omega (arith, as_many, c.len-count.ensures.count, c.len-count.ensures.some)

pub of-requires-clause-few : goal.of-requires-clause-few
of-requires-clause-few g c =
    let lines = g.P.Lines.lines c.args.painting.now in
    let painting = g.P.Colours.coloured c.args.painting.now in
    let as_many = ap (λ (seen : List SeenLine). length seen) c.in_ok-lines.ensures
    ∙ as_many_views (blocks_by c.as_slice-2.result.now) c.args.cover lines painting c.requires.as_many in
    omega (arith, as_many, c.len-count.ensures.count, c.len-count.ensures.few)

pub returns-clause-view : goal.returns-clause-view
returns-clause-view g c =
    c.of.ensures
    ∙ c.in_ok-lines.ensures
    ∙ view_by_marks c.args.items.now c.args.marks.now c.args.cover c.args.level
    (g.P.Lines.lines c.args.painting.now) (g.P.Colours.coloured c.args.painting.now) c.as_slice-2.result.now
    c.requires.numbered
    (c.as_slice-2.ensures.value ∙ c.in_ok-puts.ensures ∙ ap (map (block_at c.args.items.now c.args.level)) c.as_slice.ensures)

pub returns-clause-fit : goal.returns-clause-fit
returns-clause-fit g c =
    subst (λ (seen : List SeenLine). FitLines (lines_in seen) (spans_in seen))
    (sym (c.of.ensures ∙ c.in_ok-lines.ensures))
    (view_fits (blocks_by c.as_slice-2.result.now) c.args.cover (g.P.Lines.lines c.args.painting.now) (g.P.Colours.coloured c.args.painting.now))

use Rattle.line_paint.proofs.Common.{◌≡◌, ◌∙◌, ap, subst, List, length, reverse, false, Some, pos, Looked, one_line, Frame, ItemId, IsFromColumn, Painted, Done, looked_first, this_line, line_start, Refusal, PaintedLine, at_col, at_line_begin, painted_from, painted_after_look, top_first, goes_on}
use Rattle.line_paint.proofs.SpansLaws.{OfValue, line_fits}
use Rattle.line_paint.proofs.paint.painted_by.Goals as goal

pub returns-clause-painted : goal.returns-clause-painted
returns-clause-painted g c =
    let h = g.S.Site.here c.args.site.now in
    let before = top_first c.args.before.now in
    let one = c.own_line-looked.result in
    let j = c.first_stack.new.looked in
    let stack = reverse c.in_ok-stack.stack in
    let to = c.columns.new.standing in
    let first : one ≡ one_line (pos h.line) = c.own_line-looked.ensures in
    let start = line_start h before.stack in
    let follow = λ (stack : List Frame). painted_from h 0 (this_line h)
    (at_line_begin before stack) in
    let P : List ItemId → Type 0 = λ ts. looked_first (Some j)
    (painted_from h 0 (this_line h)
    (record {
      stack = stack;
      waiting = before.waiting;
      floor = 0;
      tried =
          reverse ts;
      is_over = false;
    }))
    ≡ Done (record { spans = c.in_ok-spans.spans; after = top_first to.state }) (Some to.looked) in
    let Q : Looked → Type 0 = λ l. looked_first (Some l) (painted_after_look h before) ≡ Done
    (record { spans = c.in_ok-spans.spans; after = top_first to.state }) (Some to.looked) in
    let done : Looked → Painted Refusal PaintedLine =
    λ (l : Looked). Done
    (record { spans = c.in_ok-spans.spans; after = top_first to.state }) (Some l) in (
      c.in_ok-before.ensures,
      (subst Q first (goes_on one j (at_col 0 start) stack follow
          c.in_ok-stack.ensures.begins
          ∙ subst P c.new.ensures c.in_ok-spans.ensures.painted) ∙ ap done c.in_ok-looked.ensures),
    )

pub returns-clause-spans : goal.returns-clause-spans
returns-clause-spans g c =
    let h = g.S.Site.here c.args.site.now in
    let P : Painted Refusal PaintedLine → Type 0 =
    λ p. OfValue (λ (r : PaintedLine). IsFromColumn 0 (length (this_line h)) r.spans) p in
    subst P (returns-clause-painted g c).1 (line_fits h (top_first c.args.before.now))

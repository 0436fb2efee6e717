use Rattle.line_paint.proofs.Common.{◌≡◌, ◌<◌, ◌≤◌, ◌+◌, ◌∙◌, ap, sym, subst, suc, List, ℕ, length, reverse, drop, get_or, drop-cons, arith, err_from_is_err_and, Some, Option, GroupId, Span, Done, looked_first, this_line, at_col, joined, painted_from, column, top_first, Spans, joined_run, ◌-◌, standing_of, painted_rest, chained, ShowsOver}
use Rattle.line_paint.specs.declared.standing.Standing.{Standing}
use Rattle.line_paint.proofs.TurnLaws.{at_later}
use Rattle.line_paint.proofs.LineLaws.{char_step, end_step, fails_step, bind_done, drop_all, untried}
use Rattle.line_paint.proofs.paint.columns.Goals as goal

pub columns-init : goal.columns-init
columns-init g c =
    let h = g.S.Site.here c.args.site.now in
    let s = standing_of c.args.standing.now in
    let j = (c.args.standing.now).looked in
    record {
      whole = ap (looked_first (Some j)) (sym (bind_done (painted_from h 0 (this_line h) s)))
          ∙ ap (λ (spans : Spans). looked_first (Some j) (painted_rest h 0 (this_line h) s spans))
          (sym c.new-spans.ensures);
      at = c.requires.at;
      memory = c.requires.memory;
    }

pub columns-preserved : goal.columns-preserved
columns-preserved g c =
    let h = g.S.Site.here c.args.site.now in
    let line = this_line h in
    let at = c.columns.c in
    let s = standing_of c.columns.standing in
    let j = (c.columns.standing).looked in
    let t = standing_of c.column.new.self in
    let k = (c.column.new.self).looked in
    let less : at < length line = omega (arith, c.columns-test.true, c.len-len.ensures) in
    let next : suc at ≡ at + 1 = omega arith in
    let one : (at + 1) - at ≡ 1 = omega arith in
    record {
      whole = c.columns.invariant.whole
          ∙ (ap (λ (l : List ℕ). looked_first (Some j) (painted_rest h at l s c.columns.spans))
          (drop-cons line at 0 less)
          ∙ (char_step h at j k s t c.columns.spans (get_or line at 0)
          (drop (suc at) line) c.show.new.self c.in_ok-column.ensures.leads
          (λ rest. c.in_ok-show.ensures rest
          ∙ ap (λ (n : ℕ). chained c.columns.spans
          (joined_run n at (c.shown_from-stretch.result).group rest)) one
          ∙ ap (λ (g : Option GroupId). chained c.columns.spans (joined at g rest))
          (sym (c.shown_from-stretch.ensures.shows at (omega arith)
          c.shown_from-stretch.ensures.behind)))
          ∙ (ap (λ (n : ℕ). looked_first (Some k)
          (painted_rest h n (drop n line) t c.show.new.self)) next
          ∙ (ap (looked_first (Some k)) (untried h (at + 1) (drop (at + 1) line) t c.show.new.self)
          ∙ (ap (λ (x : Standing). looked_first (Some x.looked)
          (painted_rest h (at + 1) (drop (at + 1) line) (standing_of x) c.show.new.self))
          (sym c.forget_tried.ensures)
          ∙ c.in_ok-show_quiet.ensures)))));
      at = at_later h at c.columns.standing c.column.new.self (at_col at (column h at s)) t
          c.columns.invariant.at c.in_ok-column.ensures.stands c.in_ok-column.ensures.leads
          c.in_ok-to.to c.forget_tried.new.self (omega (arith, c.in_ok-to.ensures.from))
          c.in_ok-to.ensures.to c.forget_tried.ensures;
      memory = c.quiet_until.ensures.memory;
    }

pub quiet_until-requires-clause-at : goal.quiet_until-requires-clause-at
quiet_until-requires-clause-at g c =
    let h = g.S.Site.here c.args.site.now in
    let at = c.columns.c in
    at_later h at c.columns.standing c.column.new.self
    (at_col at (column h at (standing_of c.columns.standing))) (standing_of c.column.new.self)
    c.columns.invariant.at c.in_ok-column.ensures.stands c.in_ok-column.ensures.leads (at + 1)
    c.forget_tried.new.self (omega arith) (omega (arith, c.columns-test.true, c.len-len.ensures))
    c.forget_tried.ensures

pub quiet_until-requires-clause-none_tried : goal.quiet_until-requires-clause-none_tried
quiet_until-requires-clause-none_tried g c = ap (λ (x : Standing). x.tried) c.forget_tried.ensures

pub show_quiet-requires-clause-shows : goal.show_quiet-requires-clause-shows
show_quiet-requires-clause-shows g c =
    let h = g.S.Site.here c.args.site.now in
    subst (λ (x : Standing). ShowsOver h.rules (reverse (x.state).stack) (c.columns.c + 1)
    c.shown_from-stretch.result) (sym c.forget_tried.ensures)
    (λ d from within. c.shown_from-stretch.ensures.shows d (omega (arith, from)) within)

pub returns-in_err-column-clause-painted : goal.returns-in_err-column-clause-painted
returns-in_err-column-clause-painted g c =
    let h = g.S.Site.here c.args.site.now in
    let line = this_line h in
    let s = standing_of c.columns.standing in
    let q = err_from_is_err_and c.from_residual.result c.from_residual.ensures.1 in
    rw (q.1, q.2) (fails_step h c.columns.c (c.args.standing.now).looked (c.columns.standing).looked s s
    c.columns.spans (drop c.columns.c line) (painted_from h 0 line (standing_of c.args.standing.now))
    c.in_err-column.field-0.0 c.columns.invariant.whole c.in_err-column.ensures.leads)

pub returns-in_err-column-2-clause-painted : goal.returns-in_err-column-2-clause-painted
returns-in_err-column-2-clause-painted g c =
    let h = g.S.Site.here c.args.site.now in
    let line = this_line h in
    let s = standing_of c.columns.standing in
    let q = err_from_is_err_and c.from_residual-in_err-column-2.result c.from_residual-in_err-column-2.ensures.1 in
    rw (q.1, q.2) (fails_step h c.columns.c (c.args.standing.now).looked (c.columns.standing).looked s s
    c.columns.spans (drop c.columns.c line) (painted_from h 0 line (standing_of c.args.standing.now))
    c.in_err-column-2.field-0.0 c.columns.invariant.whole c.in_err-column-2.ensures.leads)

pub returns-clause-painted : goal.returns-clause-painted
returns-clause-painted g c =
    let h = g.S.Site.here c.args.site.now in
    let line = this_line h in
    let s = standing_of c.columns.standing in
    let j = (c.columns.standing).looked in
    let to = c.column-2.new.self in
    let end : length line ≤ c.columns.c = omega (arith, c.columns-test.false, c.len-len.ensures) in
    c.columns.invariant.whole
    ∙ (ap (λ (l : List ℕ). looked_first (Some j) (painted_rest h c.columns.c l s c.columns.spans))
    (drop_all line c.columns.c end)
    ∙ (end_step h c.columns.c j to.looked s (standing_of to) c.columns.spans
    c.in_ok-column-2.ensures.leads
    ∙ ap (λ (all : List Span). Done (record { spans = all; after = top_first to.state })
    (Some to.looked)) (sym c.in_ok-finish.ensures)))

use Rattle.line_paint.proofs.Common.{◌≡◌, ◌∙◌, ap, ℕ, drop, arith, Some, looked_first, this_line, standing_of, painted_rest}
use Rattle.line_paint.proofs.QuietLaws.{quiet_stretch}
use Rattle.line_paint.proofs.paint.show_quiet.Goals as goal

pub quiet-preserved : goal.quiet-preserved
quiet-preserved g c =
    let h = g.S.Site.here c.args.site.now in
    let s = standing_of c.args.standing.now in
    let j = (c.args.standing.now).looked in
    record {
      whole = c.quiet.invariant.whole
          ∙ quiet_stretch h j s (c.at-stretch.result).group (this_line h) c.quiet.c c.min-end.result
          c.quiet.spans c.show.new.self
          (omega (arith, c.quiet-test.true, c.at-stretch.ensures.behind, c.min-end.ensures))
          (omega (arith, c.min-end.ensures, c.requires.within))
          (λ d from under. c.requires.quiet d (omega (arith, c.quiet.invariant.from, from))
          (omega (arith, under, c.min-end.ensures)))
          (λ d from under. c.at-stretch.ensures.shows d from
          (omega (arith, under, c.min-end.ensures)))
          c.in_ok-show.ensures;
      from = omega (
        arith,
        c.quiet.invariant.from,
        c.quiet-test.true,
        c.at-stretch.ensures.behind,
        c.min-end.ensures,
      );
      to = omega (arith, c.min-end.ensures);
      shows = λ d from within. c.at-stretch.ensures.shows d
          (omega (arith, from, c.quiet-test.true, c.at-stretch.ensures.behind, c.min-end.ensures)) within;
    }

pub returns : goal.returns
returns g c =
    let h = g.S.Site.here c.args.site.now in
    let end : c.quiet.c ≡ c.args.to = omega (arith, c.quiet-test.false, c.quiet.invariant.to) in
    c.quiet.invariant.whole
    ∙ ap (λ (n : ℕ). looked_first (Some (c.args.standing.now).looked)
    (painted_rest h n (drop n (this_line h)) (standing_of c.args.standing.now) c.quiet.spans)) end

use Rattle.line_paint.proofs.Common.{◌<◌, reverse, refl, arith, ap, rules, place_at, standing_of}
use Rattle.line_paint.proofs.RememberedLaws.{quiet_where}
use Rattle.line_paint.proofs.staying.quiet_until.Goals as goal

pub returns-clause-quiet : goal.returns-clause-quiet
returns-clause-quiet g c = λ d from under.
    let h = g.S.Site.here c.args.site.now in
    let standing = c.args.standing.now in
    let closes : d < c.closes_from-closes.result = omega (arith, under, c.min.ensures) in
    let starts : d < c.in_ok-starts.starts = omega (arith, under, c.min.ensures) in
    quiet_where h.rules h.text (place_at h.line c.args.c) (standing_of standing) standing.looked c.in_ok-starts.starts d
    (ap reverse c.requires.none_tried) (search rules) c.in_ok-starts.ensures.quiet from starts
    (c.closes_from-closes.ensures d closes (standing_of standing) refl)

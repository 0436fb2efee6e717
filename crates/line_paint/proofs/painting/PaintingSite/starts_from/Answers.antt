use Rattle.line_paint.proofs.painting.PaintingSite.starts_from.Goals as goal

pub returns-clause-quiet : goal.returns-clause-quiet
returns-clause-quiet g c =
    let is = c.query.ensures in
    rw (is.asked, is.lines, is.at, is.state, is.floor, is.looked) at c.quiet_until.ensures.quiet

use Rattle.std.proofs.lemmas.Result.{err_from_is_err_and}
use Rattle.ex_substitute.specs.Pens.{with_all}
use Rattle.ex_substitute.proofs.PenLaws.{refused-by-match}
use Rattle.ex_substitute.proofs.pen.Pen.put_replaced.Goals as goal

pub returns-in_err-put_match : goal.returns-in_err-put_match
returns-in_err-put_match g c =
    let text = g.T.Lines.lines c.args.lines.now in
    let p = err_from_is_err_and c.from_residual.result c.from_residual.ensures.1 in
    rw (p.1, p.2) (refused-by-match c.in_err-put_match.field-0.0 text c.args.string.now c.loop-m.at c.args.found.now c.loop-m.m-index c.m-item.result c.args.to c.loop-m.self
    (with_all text c.args.string.now c.args.from c.args.found.now c.args.to c.args.self.now) c.loop-m-test.true c.m-item.is c.loop-m.invariant.all c.in_err-put_match.ensures)

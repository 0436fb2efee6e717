use Rattle.std.proofs.lemmas.Result.{err_from_is_err_and}
use Rattle.ex_substitute.specs.Glyphs.{between}
use Rattle.ex_substitute.specs.Pens.{drawn, with_match}
use Rattle.ex_substitute.proofs.PenLaws.{pieces-stay, refused-by}
use Rattle.ex_substitute.proofs.pen.Pen.put_match.Goals as goal

pub returns-in_err-put_between : goal.returns-in_err-put_between
returns-in_err-put_between g c =
    let text = g.T.Lines.lines c.args.lines.now in
    let m = c.args.m.now in
    let before = drawn c.args.self.now (between text c.args.at m.from) in
    let p = err_from_is_err_and c.from_residual.result c.from_residual.ensures.1 in
    rw (p.1, p.2) (refused-by c.in_err-put_between.field-0.0 before (with_match text c.args.string.now c.args.at m c.args.self.now)
    (λ o. pieces-stay text m c.args.string.now before o) c.in_err-put_between.ensures)

use Rattle.std.proofs.lemmas.Result.{err_from_is_err_and}
use Rattle.ex_substitute.specs.Pens.{with_pieces}
use Rattle.ex_substitute.proofs.PenLaws.{refused-by-piece}
use Rattle.ex_substitute.proofs.pen.Pen.put_string.Goals as goal

pub returns-in_err-put_piece : goal.returns-in_err-put_piece
returns-in_err-put_piece g c =
    let text = g.T.Lines.lines c.args.lines.now in
    let p = err_from_is_err_and c.from_residual.result c.from_residual.ensures.1 in
    rw (p.1, p.2) (refused-by-piece c.in_err-put_piece.field-0.0 text c.args.m.now c.args.string.now c.loop-piece.piece-index _ c.loop-piece.self
    (with_pieces text c.args.m.now c.args.string.now c.args.self.now) c.loop-piece-test.true c.loop-piece.invariant c.in_err-put_piece.ensures)

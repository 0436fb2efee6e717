use Rattle.std.proofs.Common.{◌∙◌, ◌++◌, ℕ, List, map, ap, sym}
use Rattle.std.proofs.lemmas.Result.{err_from_is_err_and}
use Rattle.ex_substitute.specs.declared.pen.Pen.{Pen}
use Rattle.ex_substitute.specs.Glyphs.{sign, line_end}
use Rattle.ex_substitute.specs.Pens.{drawn, rest_of}
use Rattle.ex_substitute.proofs.PenLaws.{drawn-both, refused-first-run}
use Rattle.ex_substitute.proofs.pen.Pen.put_rest.Goals as goal

pub returns-in_err-put_chars : goal.returns-in_err-put_chars
returns-in_err-put_chars g c =
    let text = g.T.Lines.lines c.args.lines.now in
    let end = line_end text c.args.from.line in
    let p = err_from_is_err_and c.from_residual.result c.from_residual.ensures.1 in
    rw (p.1, p.2) (refused-first-run c.in_err-put_chars.field-0.0 c.args.self.now (map sign c.rest_at.result.now) end (rest_of text c.args.from)
    (ap (λ (l : List ℕ). map sign l ++ end) (sym c.rest_at.ensures)) c.in_err-put_chars.ensures)

pub returns : goal.returns
returns g c =
    let text = g.T.Lines.lines c.args.lines.now in
    let end = line_end text c.args.from.line in
    c.in_ok-put_line_end.ensures
    ∙ ap (λ (p : Pen). drawn p end) c.in_ok-put_chars.ensures
    ∙ sym (drawn-both c.args.self.now (map sign c.rest_at.result.now) end)
    ∙ ap (λ (l : List ℕ). drawn c.args.self.now (map sign l ++ end)) c.rest_at.ensures

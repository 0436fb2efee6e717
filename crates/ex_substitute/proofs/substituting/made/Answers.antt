use Rattle.std.proofs.Common.{◌∷◌, subst}
use Rattle.std.proofs.lemmas.Result.{err_from_is_err_and}
use Rattle.match_rules.specs.Ways.{place}
use Rattle.ex_substitute.specs.declared.pen.Pen.{Pen}
use Rattle.ex_substitute.specs.Pens.{with_all, with_match, Overfills}
use Rattle.ex_substitute.proofs.PenLaws.{all-stay, refused-by}
use Rattle.ex_substitute.proofs.substituting.made.Goals as goal

pub returns-in_err-put_match : goal.returns-in_err-put_match
returns-in_err-put_match g c =
    let text = g.T.Lines.lines c.args.lines.now in
    let string = c.args.string.now in
    let m = c.args.first.now in
    let ms = c.args.rest.now in
    let at = place m.from.line 0 in
    let pen = c.new-pen.result in
    let e = c.in_err-put_match.field-0.0 in
    let part = with_match text string at m pen in
    let p = err_from_is_err_and c.from_residual.result c.from_residual.ensures.1 in
    rw (p.1, p.2) (subst (λ (x : Pen). Overfills e (with_all text string at (m ∷ ms) c.args.to x)) c.new-pen.ensures
    (refused-by e part (with_all text string at (m ∷ ms) c.args.to pen) (λ o. all-stay text string m.to ms c.args.to part o) c.in_err-put_match.ensures))

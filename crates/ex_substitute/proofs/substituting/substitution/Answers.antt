use Rattle.std.proofs.Common.{◌+◌, ◌∙◌, length, ap, refl, sym}
use Rattle.std.proofs.lemmas.Result.{err_from_is_err_and}
use Rattle.ex_substitute.specs.declared.change.Change.{Change}
use Rattle.ex_substitute.specs.Changes.{end_before, within_limits}
use Rattle.ex_substitute.proofs.ChangeLaws.{change-is, overfilled}
use Rattle.ex_substitute.proofs.substituting.substitution.Goals as goal

pub returns-in_err-pen : goal.returns-in_err-pen
returns-in_err-pen g c =
    let text = g.T.Lines.lines c.args.lines.now in
    let p = err_from_is_err_and c.from_residual-in_err-pen.result c.from_residual-in_err-pen.ensures.1 in
    rw (p.1, p.2) (overfilled c.in_err-pen.field-0.0 text c.args.string.now c.args.first.now c.args.rest.now c.end_before.result
    (c.end_before.ensures.end ∙ ap (λ b. end_before text b) c.line_behind-b.ensures.line) c.in_ok-check_lines.ensures c.in_err-pen.ensures)

pub returns-in_err-change : goal.returns-in_err-change
returns-in_err-change g c =
    let text = g.T.Lines.lines c.args.lines.now in
    let same = change-is text c.args.string.now c.args.first.now c.args.rest.now c.line_behind-b.result (length c.args.rest.now + 1) c.in_ok-into_lines.field-0 c.end_before.result
    c.in_ok-pen.pen c.line_behind-b.ensures.line c.end_before.ensures.end c.in_ok-pen.ensures c.in_ok-into_lines.ensures refl in
    let p = err_from_is_err_and c.from_residual-in_err-change.result c.from_residual-in_err-change.ensures.1 in
    rw (p.1, p.2) (ap (λ (x : Change). within_limits text x) (sym same) ∙ sym c.in_err-change.ensures)

pub returns : goal.returns
returns g c =
    let text = g.T.Lines.lines c.args.lines.now in
    let same = change-is text c.args.string.now c.args.first.now c.args.rest.now c.line_behind-b.result (length c.args.rest.now + 1) c.in_ok-into_lines.field-0 c.end_before.result
    c.in_ok-pen.pen c.line_behind-b.ensures.line c.end_before.ensures.end c.in_ok-pen.ensures c.in_ok-into_lines.ensures refl in
    ap (λ (x : Change). within_limits text x) (sym same) ∙ sym c.in_ok-change.ensures

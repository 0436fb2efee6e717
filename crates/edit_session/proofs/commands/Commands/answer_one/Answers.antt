use Rattle.std.specs.Prelude.{Err}
use Rattle.std.proofs.Common.{◌∙◌, ap}
use Rattle.std.proofs.lemmas.Result.{err_from_is_err_and}
use Rattle.edit_session.specs.Session.{answers}
use Rattle.edit_session.specs.Steps.{standing}
use Rattle.edit_session.proofs.CauseLaws.{answer_stopped}
use Rattle.edit_session.proofs.commands.Commands.answer_one.Goals as goal

pub returns-in_err-text-clause-answers : goal.returns-in_err-text-clause-answers
returns-in_err-text-clause-answers g c = λ known is.
    let library = g.D.Document.library c.args.self.now.document known in
    let s = standing g.D.Lines.lines g.D.Document.shown g.D.Document.painter c.args.self.now in
    let now = standing g.D.Lines.lines g.D.Document.shown g.D.Document.painter c.answer.new.self in
    let q = err_from_is_err_and c.from_residual.result c.from_residual.ensures.1 in
    answer_stopped (Unit {0}) library (answers library s c.args.entry.line c.args.entry.what) now (g.O.Sink.written c.args.out.now) (g.O.Sink.faults c.args.out.now) c.in_err-text.field-0.0 c.from_residual.result
    (c.in_err-text.ensures.answer known is) (q.1 ∙ ap Err q.2)

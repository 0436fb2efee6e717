use Rattle.std.proofs.Common.{◌+◌, ◌-◌, ◌++◌, refl, sym}
use Rattle.std.proofs.lemmas.Result.{err_from_is_err_and}
use Rattle.ex_substitute.specs.Searching.{is_taken}
use Rattle.ex_substitute.specs.Trials.{trial_in}
use Rattle.ex_substitute.specs.Trying.{first_of, places_in, places_of}
use Rattle.ex_substitute.proofs.AnswerLaws.{gives-along}
use Rattle.ex_substitute.proofs.TryLaws.{none-first, refused-first, some-first}
use Rattle.ex_substitute.proofs.trying.Trying.next.Goals as goal

pub returns-in_err-found-clause-found : goal.returns-in_err-found-clause-found
returns-in_err-found-clause-found g c =
    let text = g.T.Lines.lines c.args.lines.now in
    let t = trial_in text c.args.self.now in
    let from = c.args.from in
    let line = places_in text from.line from.col in
    let others = places_of text (from.line + 1) (c.args.scope.b - (from.line + 1)) in
    let p = err_from_is_err_and c.from_residual.result c.from_residual.ensures.1 in
    rw (p.1, p.2) (refused-first t (is_taken c.args.end) line others (first_of t (is_taken c.args.end) (line ++ others)) c.in_err-found.field-0.0 refl c.in_err-found.ensures.found)

pub returns-then-is_some-clause-found : goal.returns-then-is_some-clause-found
returns-then-is_some-clause-found g c =
    let text = g.T.Lines.lines c.args.lines.now in
    let from = c.args.from in
    some-first (trial_in text c.args.self.now) (is_taken c.args.end) (places_in text from.line from.col) (places_of text (from.line + 1) (c.args.scope.b - (from.line + 1)))
    c.in_ok-found.found c.in_ok-found.ensures.found (sym c.if-is_some.ensures)

pub returns-clause-found : goal.returns-clause-found
returns-clause-found g c =
    let text = g.T.Lines.lines c.args.lines.now in
    let t = trial_in text c.args.self.now in
    let from = c.args.from in
    let line = places_in text from.line from.col in
    let others = places_of text (from.line + 1) (c.args.scope.b - (from.line + 1)) in
    gives-along c.first_in_lines.result (first_of t (is_taken c.args.end) others) (first_of t (is_taken c.args.end) (line ++ others))
    (none-first t (is_taken c.args.end) line others c.in_ok-found.found c.in_ok-found.ensures.found (sym c.if-is_some.ensures)) c.first_in_lines.ensures.found

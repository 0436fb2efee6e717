use Rattle.std.proofs.Common.{◌≡◌, ◌≤◌, ◌+◌, ◌-◌, length}
use Rattle.large_session.specs.LargeSession.{edited_often, lines_of_edits}
use Rattle.large_session.specs.Steps.{standing}
use Rattle.large_session.proofs.session.Edited.edit_often.Given as goal

-- what stands, with the edits to come, is the whole, and so are the lines that they paint at most
abbrev pub invariant-loop : goal.invariant-loop
invariant-loop g l =
    let lines = g.D.Lines.lines in
    let shown = g.D.Document.shown in
    let p = g.D.Document.painter l.fn.self.document in
    let first = standing lines shown l.fn.self.document l.fn.self.edits l.fn.self.refused l.fn.self.repainted in
    let now = standing lines shown l.self.document l.self.edits l.self.refused l.self.repainted in
    record {
      same : g.D.Document.painter l.self.document ≡ p;
      stands : edited_often p (l.count - l.counter) now l.draws ≡ edited_often p l.count first l.fn.draws;
      painted : l.steps + lines_of_edits p (l.count - l.counter) now l.draws ≤ l.fn.steps + lines_of_edits p l.count first l.fn.draws;
      few : length (lines l.self.document) + (l.count - l.counter) ≤ 2000000;
    }

use Rattle.std.proofs.Common.{◌≡◌, ◌≤◌, ◌+◌}
use Rattle.std.specs.Vec.Iter.{into_iter_items}
use Rattle.std.proofs.Common.{ℕ}
use Rattle.std.specs.Prelude.{Ok}
use Rattle.syn_base.specs.Outside.{appended}
use Rattle.edit_session.specs.Ends.{IfKnown, files_change, sink_change}
use Rattle.edit_session.specs.Session.{Answer, behind, session, session_costs}
use Rattle.edit_session.specs.Steps.{AreCaused, standing}
use Rattle.edit_session.proofs.commands.Commands.answer_all.Given as goal

-- what was answered so far, with what the commands to come answer, is what all of them answer; and so are the lines that
-- they may paint
abbrev pub invariant-loop-entry : goal.invariant-loop-entry
invariant-loop-entry g l =
    let told = g.F.Files.told in
    let written = g.O.Sink.written in
    let failed = g.F.Files.faults in
    let misses = g.F.Files.misses in
    let longs = g.F.Files.longs in
    let library = g.D.Document.library l.fn.self.document in
    let s = standing g.D.Lines.lines g.D.Document.shown g.D.Document.painter l.fn.self in
    let now = standing g.D.Lines.lines g.D.Document.shown g.D.Document.painter l.self in
    record {
      kept : told l.files ≡ told l.fn.files;
      same : g.D.Document.library l.self.document ≡ library;
      answered : IfKnown (told l.fn.files) (λ known.
          (first : Answer)
          × (written l.out ≡ appended (written l.fn.out) first.text)
          × (session (library known) s l.fn.entries
          ≡ behind first (session (library known) now (into_iter_items l.entry-iterator))));
      painted : IfKnown (told l.fn.files) (λ known.
          l.steps + session_costs (library known) now (into_iter_items l.entry-iterator)
          ≤ l.fn.steps + session_costs (library known) s l.fn.entries);
      caused : AreCaused {A = ℕ} l.fn.self.harm l.self.harm
          (files_change (told l.fn.files) (told l.files) (failed l.fn.files) (failed l.files) (misses l.fn.files) (misses l.files) (longs l.fn.files) (longs l.files))
          (sink_change (written l.fn.out) (written l.out) (g.O.Sink.faults l.fn.out) (g.O.Sink.faults l.out)) (Ok 0);
    }

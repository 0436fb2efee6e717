use Rattle.std.proofs.Common.{◌≡◌, ℕ, ◌-◌, List, length}
use Rattle.std.specs.Prelude.{Ok}
use Rattle.edit_session.specs.Ends.{IfKnown, files_change, sink_change, source_change}
use Rattle.edit_session.specs.Steps.{AreCaused, HasRead, HasTaken, standing, steps_change}
use Rattle.edit_session.proofs.pieces.read_pieces.Given as goal

-- so many bytes were taken, and the commands whose last line is whole in them were answered
abbrev pub invariant-loop-taken : goal.invariant-loop-taken
invariant-loop-taken g l =
    let lines = g.D.Lines.lines in
    let shown = g.D.Document.shown in
    let painter = g.D.Document.painter in
    let library = g.D.Document.library l.fn.commands.document in
    let told = g.F.Files.told in
    let lost = g.F.Files.faults in
    let misses = g.F.Files.misses in
    let longs = g.F.Files.longs in
    let left = g.I.Source.left in
    let failed = g.I.Source.faults in
    let written = g.O.Sink.written in
    let refused = g.O.Sink.faults in
    record {
      kept : told l.files ≡ told l.fn.files;
      same : g.D.Document.library l.commands.document ≡ library;
      read : IfKnown (told l.fn.files) (λ known.
          (bytes : List ℕ)
          × HasRead (library known) (standing lines shown painter l.fn.commands) (standing lines shown painter l.commands) l.kept (source_change (left l.fn.script) (left l.script) (failed l.fn.script) (failed l.script)) (sink_change (written l.fn.out) (written l.out) (refused l.fn.out) (refused l.out)) (steps_change l.fn.steps l.steps) bytes
          × (length bytes ≡ l.taken));
      took : (bytes : List ℕ)
          × HasTaken (source_change (left l.fn.script) (left l.script) (failed l.fn.script) (failed l.script)) bytes
          × (length bytes ≡ l.taken);
      caused : AreCaused {A = ℕ} l.fn.commands.harm l.commands.harm
          (files_change (told l.fn.files) (told l.files) (lost l.fn.files) (lost l.files) (misses l.fn.files) (misses l.files) (longs l.fn.files) (longs l.files))
          (sink_change (written l.fn.out) (written l.out) (refused l.fn.out) (refused l.out)) (Ok 0);
    }

abbrev pub decreases-loop-taken : goal.decreases-loop-taken
decreases-loop-taken g l = 67108864 - l.taken

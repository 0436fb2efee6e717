use Rattle.std.proofs.lemmas.List.{length-take-le}
use Rattle.std.proofs.Common.{ℕ, Bool, [], true, refl, ap, ◌∙◌, inl, arith}
use Rattle.std.specs.Prelude.{Ok, Err}
use Rattle.std.proofs.lemmas.Result.{err_from_is_err_and}
use Rattle.edit_session.specs.Ends.{files_change, sink_change}
use Rattle.edit_session.specs.Steps.{standing}
use Rattle.edit_session.proofs.CauseLaws.{caused_further, took_further, took_start, took_stopped}
use Rattle.edit_session.proofs.ReadingLaws.{pieces_further, pieces_stopped, read_start}
use Rattle.edit_session.proofs.pieces.read_pieces.Goals as goal

pub loop-taken-init : goal.loop-taken-init
loop-taken-init g c =
    let s = standing g.D.Lines.lines g.D.Document.shown g.D.Document.painter c.args.commands.now in
    let failed = g.I.Source.faults c.args.script.now in
    record {
      kept = refl;
      same = refl;
      read = λ known is. ([], read_start (g.D.Document.library c.args.commands.now.document known) s c.args.kept.now (g.I.Source.left c.args.script.now) (g.O.Sink.written c.args.out.now) failed failed (g.O.Sink.faults c.args.out.now) c.args.steps.now c.requires.fresh, refl);
      took = ([], took_start (g.I.Source.left c.args.script.now) failed, refl);
      caused = (refl, refl, λ none. (none, refl, refl), record { counts = omega arith; met = λ is. inl is });
    }

pub returns-in_err-count-clause-kept : goal.returns-in_err-count-clause-kept
returns-in_err-count-clause-kept g c = c.in_err-count.ensures.kept ∙ c.loop-taken.invariant.kept

pub returns-in_err-count-clause-library : goal.returns-in_err-count-clause-library
returns-in_err-count-clause-library g c = c.in_err-count.ensures.library ∙ c.loop-taken.invariant.same

pub returns-in_err-count-clause-read : goal.returns-in_err-count-clause-read
returns-in_err-count-clause-read g c = λ known is.
    let inv = c.loop-taken.invariant in
    let lines = g.D.Lines.lines in
    let shown = g.D.Document.shown in
    let painter = g.D.Document.painter in
    let left = g.I.Source.left in
    let failed = g.I.Source.faults in
    let written = g.O.Sink.written in
    let refused = g.O.Sink.faults in
    let so_far = inv.read known is in
    let q = err_from_is_err_and c.from_residual.result c.from_residual.ensures.1 in
    pieces_stopped (g.D.Document.library c.args.commands.now.document known) (g.D.Document.library c.loop-taken.commands.document known) (ap (λ f. f known) inv.same)
    (standing lines shown painter c.args.commands.now) (standing lines shown painter c.loop-taken.commands) (standing lines shown painter c.read_piece.new.commands) c.loop-taken.kept c.read_piece.new.kept _ c.loop-taken.taken
    (left c.args.script.now) (left c.loop-taken.script) (left c.read_piece.new.script) (written c.args.out.now) (written c.loop-taken.out) (written c.read_piece.new.out) (failed c.args.script.now) (failed c.loop-taken.script) (failed c.read_piece.new.script) (refused c.args.out.now) (refused c.loop-taken.out) (refused c.read_piece.new.out) c.args.steps.now c.loop-taken.steps c.read_piece.new.steps
    so_far.0 c.in_err-count.field-0.0 c.from_residual.result so_far.1 so_far.2 inv.took.1.readable inv.caused.0 (c.in_err-count.ensures.piece known (inv.kept ∙ is)) (omega (arith, c.min-room.ensures, c.requires.buffer, length-take-le {A = ℕ})) (q.1 ∙ ap Err q.2)

pub returns-in_err-count-clause-causes : goal.returns-in_err-count-clause-causes
returns-in_err-count-clause-causes g c =
    let inv = c.loop-taken.invariant in
    let lines = g.D.Lines.lines in
    let shown = g.D.Document.shown in
    let painter = g.D.Document.painter in
    let left = g.I.Source.left in
    let failed = g.I.Source.faults in
    let written = g.O.Sink.written in
    let refused = g.O.Sink.faults in
    let told = g.F.Files.told in
    let lost = g.F.Files.faults in
    let misses = g.F.Files.misses in
    let longs = g.F.Files.longs in
    let q = err_from_is_err_and c.from_residual.result c.from_residual.ensures.1 in
    took_stopped ℕ c.args.commands.now.harm c.loop-taken.commands.harm c.read_piece.new.commands.harm
    (told c.args.files.now) (told c.loop-taken.files) (told c.read_piece.new.files) (lost c.args.files.now) (lost c.loop-taken.files) (lost c.read_piece.new.files) (misses c.args.files.now) (misses c.loop-taken.files) (misses c.read_piece.new.files) (longs c.args.files.now) (longs c.loop-taken.files) (longs c.read_piece.new.files)
    (written c.args.out.now) (written c.loop-taken.out) (written c.read_piece.new.out) (refused c.args.out.now) (refused c.loop-taken.out) (refused c.read_piece.new.out) 0 _ c.loop-taken.taken (left c.args.script.now) (left c.loop-taken.script) (left c.read_piece.new.script) (failed c.args.script.now) (failed c.loop-taken.script) (failed c.read_piece.new.script)
    inv.took.0 c.in_err-count.field-0.0 c.from_residual.result inv.took.1 inv.took.2 (omega (arith, c.min-room.ensures, c.requires.buffer, length-take-le {A = ℕ})) inv.caused c.in_err-count.ensures.causes (q.1 ∙ ap Err q.2)

pub returns-then-count-eq0-clause-kept : goal.returns-then-count-eq0-clause-kept
returns-then-count-eq0-clause-kept g c = c.in_ok-count.ensures.kept ∙ c.loop-taken.invariant.kept

pub returns-then-count-eq0-clause-library : goal.returns-then-count-eq0-clause-library
returns-then-count-eq0-clause-library g c = c.in_ok-count.ensures.library ∙ c.loop-taken.invariant.same

pub returns-then-count-eq0-clause-read : goal.returns-then-count-eq0-clause-read
returns-then-count-eq0-clause-read g c = λ known is.
    let inv = c.loop-taken.invariant in
    let lines = g.D.Lines.lines in
    let shown = g.D.Document.shown in
    let painter = g.D.Document.painter in
    let left = g.I.Source.left in
    let failed = g.I.Source.faults in
    let written = g.O.Sink.written in
    let refused = g.O.Sink.faults in
    let so_far = inv.read known is in
    let more = pieces_further (g.D.Document.library c.args.commands.now.document known) (g.D.Document.library c.loop-taken.commands.document known) (ap (λ f. f known) inv.same)
    (standing lines shown painter c.args.commands.now) (standing lines shown painter c.loop-taken.commands) (standing lines shown painter c.read_piece.new.commands) c.loop-taken.kept c.read_piece.new.kept _ c.in_ok-count.count c.loop-taken.taken
    (left c.args.script.now) (left c.loop-taken.script) (left c.read_piece.new.script) (written c.args.out.now) (written c.loop-taken.out) (written c.read_piece.new.out) (failed c.args.script.now) (failed c.loop-taken.script) (failed c.read_piece.new.script) (refused c.args.out.now) (refused c.loop-taken.out) (refused c.read_piece.new.out) c.args.steps.now c.loop-taken.steps c.read_piece.new.steps
    so_far.0 so_far.1 so_far.2 (c.in_ok-count.ensures.piece known (inv.kept ∙ is)) (omega (arith, c.min-room.ensures, c.requires.buffer, length-take-le {A = ℕ})) in
    (more.0, more.1, c.in_ok-count.ensures.causes.4 c.if-count-eq0.true)

pub returns-then-count-eq0-clause-causes : goal.returns-then-count-eq0-clause-causes
returns-then-count-eq0-clause-causes g c =
    let inv = c.loop-taken.invariant in
    let lines = g.D.Lines.lines in
    let shown = g.D.Document.shown in
    let painter = g.D.Document.painter in
    let left = g.I.Source.left in
    let failed = g.I.Source.faults in
    let written = g.O.Sink.written in
    let refused = g.O.Sink.faults in
    let told = g.F.Files.told in
    let lost = g.F.Files.faults in
    let misses = g.F.Files.misses in
    let longs = g.F.Files.longs in
    let more = took_further c.loop-taken.commands.harm c.read_piece.new.commands.harm (files_change (told c.loop-taken.files) (told c.read_piece.new.files) (lost c.loop-taken.files) (lost c.read_piece.new.files) (misses c.loop-taken.files) (misses c.read_piece.new.files) (longs c.loop-taken.files) (longs c.read_piece.new.files)) (sink_change (written c.loop-taken.out) (written c.read_piece.new.out) (refused c.loop-taken.out) (refused c.read_piece.new.out)) _ c.in_ok-count.count c.loop-taken.taken
    (left c.args.script.now) (left c.loop-taken.script) (left c.read_piece.new.script) (failed c.args.script.now) (failed c.loop-taken.script) (failed c.read_piece.new.script) inv.took.0 inv.took.1 inv.took.2 c.in_ok-count.ensures.causes (omega (arith, c.min-room.ensures, c.requires.buffer, length-take-le {A = ℕ})) in (
      more.0,
      more.1,
      c.in_ok-count.ensures.causes.4 c.if-count-eq0.true,
      caused_further ℕ Bool c.args.commands.now.harm c.loop-taken.commands.harm c.read_piece.new.commands.harm
          (told c.args.files.now) (told c.loop-taken.files) (told c.read_piece.new.files) (lost c.args.files.now) (lost c.loop-taken.files) (lost c.read_piece.new.files) (misses c.args.files.now) (misses c.loop-taken.files) (misses c.read_piece.new.files) (longs c.args.files.now) (longs c.loop-taken.files) (longs c.read_piece.new.files)
          (written c.args.out.now) (written c.loop-taken.out) (written c.read_piece.new.out) (refused c.args.out.now) (refused c.loop-taken.out) (refused c.read_piece.new.out) 0 (Ok true) inv.caused c.in_ok-count.ensures.causes.6,
    )

pub loop-taken-preserved : goal.loop-taken-preserved
loop-taken-preserved g c =
    let inv = c.loop-taken.invariant in
    let lines = g.D.Lines.lines in
    let shown = g.D.Document.shown in
    let painter = g.D.Document.painter in
    let left = g.I.Source.left in
    let failed = g.I.Source.faults in
    let written = g.O.Sink.written in
    let refused = g.O.Sink.faults in
    let told = g.F.Files.told in
    let lost = g.F.Files.faults in
    let misses = g.F.Files.misses in
    let longs = g.F.Files.longs in
    record {
      kept = c.in_ok-count.ensures.kept ∙ inv.kept;
      same = c.in_ok-count.ensures.library ∙ inv.same;
      read = λ known is.
          let so_far = inv.read known is in
          pieces_further (g.D.Document.library c.args.commands.now.document known) (g.D.Document.library c.loop-taken.commands.document known) (ap (λ f. f known) inv.same)
          (standing lines shown painter c.args.commands.now) (standing lines shown painter c.loop-taken.commands) (standing lines shown painter c.read_piece.new.commands) c.loop-taken.kept c.read_piece.new.kept _ c.in_ok-count.count c.loop-taken.taken
          (left c.args.script.now) (left c.loop-taken.script) (left c.read_piece.new.script) (written c.args.out.now) (written c.loop-taken.out) (written c.read_piece.new.out) (failed c.args.script.now) (failed c.loop-taken.script) (failed c.read_piece.new.script) (refused c.args.out.now) (refused c.loop-taken.out) (refused c.read_piece.new.out) c.args.steps.now c.loop-taken.steps c.read_piece.new.steps
          so_far.0 so_far.1 so_far.2 (c.in_ok-count.ensures.piece known (inv.kept ∙ is)) (omega (arith, c.min-room.ensures, c.requires.buffer, length-take-le {A = ℕ}));
      took = took_further c.loop-taken.commands.harm c.read_piece.new.commands.harm (files_change (told c.loop-taken.files) (told c.read_piece.new.files) (lost c.loop-taken.files) (lost c.read_piece.new.files) (misses c.loop-taken.files) (misses c.read_piece.new.files) (longs c.loop-taken.files) (longs c.read_piece.new.files)) (sink_change (written c.loop-taken.out) (written c.read_piece.new.out) (refused c.loop-taken.out) (refused c.read_piece.new.out)) _ c.in_ok-count.count c.loop-taken.taken
          (left c.args.script.now) (left c.loop-taken.script) (left c.read_piece.new.script) (failed c.args.script.now) (failed c.loop-taken.script) (failed c.read_piece.new.script) inv.took.0 inv.took.1 inv.took.2 c.in_ok-count.ensures.causes (omega (arith, c.min-room.ensures, c.requires.buffer, length-take-le {A = ℕ}));
      caused = caused_further ℕ ℕ c.args.commands.now.harm c.loop-taken.commands.harm c.read_piece.new.commands.harm
          (told c.args.files.now) (told c.loop-taken.files) (told c.read_piece.new.files) (lost c.args.files.now) (lost c.loop-taken.files) (lost c.read_piece.new.files) (misses c.args.files.now) (misses c.loop-taken.files) (misses c.read_piece.new.files) (longs c.args.files.now) (longs c.loop-taken.files) (longs c.read_piece.new.files)
          (written c.args.out.now) (written c.loop-taken.out) (written c.read_piece.new.out) (refused c.args.out.now) (refused c.loop-taken.out) (refused c.read_piece.new.out) 0 (Ok 0) inv.caused c.in_ok-count.ensures.causes.6;
    }

pub returns-clause-kept : goal.returns-clause-kept
returns-clause-kept g c = c.loop-taken.invariant.kept

pub returns-clause-library : goal.returns-clause-library
returns-clause-library g c = c.loop-taken.invariant.same

pub returns-clause-read : goal.returns-clause-read
returns-clause-read g c = λ known is.
    let so_far = c.loop-taken.invariant.read known is in
    let few = so_far.1.few in
    (so_far.0, so_far.1, omega (arith, so_far.2, few, c.loop-taken-test.false))

pub returns-clause-causes : goal.returns-clause-causes
returns-clause-causes g c =
    let took = c.loop-taken.invariant.took in
    let few = took.1.few in
    (took.0, took.1, omega (arith, took.2, few, c.loop-taken-test.false), c.loop-taken.invariant.caused)

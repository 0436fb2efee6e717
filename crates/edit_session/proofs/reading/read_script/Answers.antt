use Rattle.std.proofs.Common.{Bool, ap, refl, ◌∙◌}
use Rattle.edit_session.specs.Ends.{files_change, sink_change, source_change}
use Rattle.edit_session.specs.Steps.{standing, steps_change}
use Rattle.edit_session.proofs.CauseLaws.{caused_further, script_finished, script_over, script_stopped, took_all, took_few}
use Rattle.edit_session.proofs.EndLaws.{untouched_few}
use Rattle.edit_session.proofs.LongLaws.{met_over, met_whole, stopped_unmet}
use Rattle.edit_session.proofs.ReadingLaws.{finished, over_end, reached_end, stopped_reading, within_nothing}
use Rattle.edit_session.proofs.reading.read_script.Goals as goal

-- ---- there is no memory for the buffer

pub returns-in_err-buffer-clause-within : goal.returns-in_err-buffer-clause-within
returns-in_err-buffer-clause-within g c = λ known is.
    within_nothing (g.D.Document.library c.args.commands.now.document known) (standing g.D.Lines.lines g.D.Document.shown g.D.Document.painter c.args.commands.now)
    (g.I.Source.left c.args.script.now) (g.O.Sink.written c.args.out.now) (g.I.Source.faults c.args.script.now) (g.O.Sink.faults c.args.out.now) c.args.steps.now

pub returns-in_err-buffer-clause-taken : goal.returns-in_err-buffer-clause-taken
returns-in_err-buffer-clause-taken g c =
    untouched_few (source_change (g.I.Source.left c.args.script.now) (g.I.Source.left c.args.script.now) (g.I.Source.faults c.args.script.now) (g.I.Source.faults c.args.script.now)) refl

-- ---- reading stopped in the pieces

pub returns-in-Err-clause-ends : goal.returns-in-Err-clause-ends
returns-in-Err-clause-ends g c = λ known is.
    let lines = g.D.Lines.lines in
    let shown = g.D.Document.shown in
    let painter = g.D.Document.painter in
    let left = g.I.Source.left in
    let failed = g.I.Source.faults in
    let written = g.O.Sink.written in
    let refused = g.O.Sink.faults in
    let told = g.F.Files.told in
    let lost = g.F.Files.faults in
    let misses = g.F.Files.misses in
    let longs = g.F.Files.longs in
    let stopped = stopped_reading (Unit {0}) (g.D.Document.library c.args.commands.now.document known) (standing lines shown painter c.args.commands.now) c.read_pieces.new.commands.harm.refused c.args.commands.now.harm c.read_pieces.new.commands.harm
    (source_change (left c.args.script.now) (left c.read_pieces.new.script) (failed c.args.script.now) (failed c.read_pieces.new.script)) (files_change (told c.args.files.now) (told c.read_pieces.new.files) (lost c.args.files.now) (lost c.read_pieces.new.files) (misses c.args.files.now) (misses c.read_pieces.new.files) (longs c.args.files.now) (longs c.read_pieces.new.files)) (sink_change (written c.args.out.now) (written c.read_pieces.new.out) (refused c.args.out.now) (refused c.read_pieces.new.out)) (steps_change c.args.steps.now c.read_pieces.new.steps) c.in-Err.end
    (c.in-Err.ensures.read known is) c.in-Err.ensures.causes in
    stopped.0

pub returns-in-Err-clause-within : goal.returns-in-Err-clause-within
returns-in-Err-clause-within g c = λ known is.
    let lines = g.D.Lines.lines in
    let shown = g.D.Document.shown in
    let painter = g.D.Document.painter in
    let left = g.I.Source.left in
    let failed = g.I.Source.faults in
    let written = g.O.Sink.written in
    let refused = g.O.Sink.faults in
    let told = g.F.Files.told in
    let lost = g.F.Files.faults in
    let misses = g.F.Files.misses in
    let longs = g.F.Files.longs in
    let stopped = stopped_reading (Unit {0}) (g.D.Document.library c.args.commands.now.document known) (standing lines shown painter c.args.commands.now) c.read_pieces.new.commands.harm.refused c.args.commands.now.harm c.read_pieces.new.commands.harm
    (source_change (left c.args.script.now) (left c.read_pieces.new.script) (failed c.args.script.now) (failed c.read_pieces.new.script)) (files_change (told c.args.files.now) (told c.read_pieces.new.files) (lost c.args.files.now) (lost c.read_pieces.new.files) (misses c.args.files.now) (misses c.read_pieces.new.files) (longs c.args.files.now) (longs c.read_pieces.new.files)) (sink_change (written c.args.out.now) (written c.read_pieces.new.out) (refused c.args.out.now) (refused c.read_pieces.new.out)) (steps_change c.args.steps.now c.read_pieces.new.steps) c.in-Err.end
    (c.in-Err.ensures.read known is) c.in-Err.ensures.causes in
    stopped.1

pub returns-in-Err-clause-causes : goal.returns-in-Err-clause-causes
returns-in-Err-clause-causes g c =
    let lines = g.D.Lines.lines in
    let shown = g.D.Document.shown in
    let painter = g.D.Document.painter in
    let left = g.I.Source.left in
    let failed = g.I.Source.faults in
    let written = g.O.Sink.written in
    let refused = g.O.Sink.faults in
    let told = g.F.Files.told in
    let lost = g.F.Files.faults in
    let misses = g.F.Files.misses in
    let longs = g.F.Files.longs in
    let stopped = script_stopped (Unit {0}) c.args.commands.now.harm c.read_pieces.new.commands.harm
    (source_change (left c.args.script.now) (left c.read_pieces.new.script) (failed c.args.script.now) (failed c.read_pieces.new.script)) (files_change (told c.args.files.now) (told c.read_pieces.new.files) (lost c.args.files.now) (lost c.read_pieces.new.files) (misses c.args.files.now) (misses c.read_pieces.new.files) (longs c.args.files.now) (longs c.read_pieces.new.files)) (sink_change (written c.args.out.now) (written c.read_pieces.new.out) (refused c.args.out.now) (refused c.read_pieces.new.out)) c.in-Err.end c.in-Err.ensures.causes in
    stopped.0

pub returns-in-Err-clause-taken : goal.returns-in-Err-clause-taken
returns-in-Err-clause-taken g c =
    let lines = g.D.Lines.lines in
    let shown = g.D.Document.shown in
    let painter = g.D.Document.painter in
    let left = g.I.Source.left in
    let failed = g.I.Source.faults in
    let written = g.O.Sink.written in
    let refused = g.O.Sink.faults in
    let told = g.F.Files.told in
    let lost = g.F.Files.faults in
    let misses = g.F.Files.misses in
    let longs = g.F.Files.longs in
    let stopped = script_stopped (Unit {0}) c.args.commands.now.harm c.read_pieces.new.commands.harm
    (source_change (left c.args.script.now) (left c.read_pieces.new.script) (failed c.args.script.now) (failed c.read_pieces.new.script)) (files_change (told c.args.files.now) (told c.read_pieces.new.files) (lost c.args.files.now) (lost c.read_pieces.new.files) (misses c.args.files.now) (misses c.read_pieces.new.files) (longs c.args.files.now) (longs c.read_pieces.new.files)) (sink_change (written c.args.out.now) (written c.read_pieces.new.out) (refused c.args.out.now) (refused c.read_pieces.new.out)) c.in-Err.end c.in-Err.ensures.causes in
    stopped.1

-- ---- at the end of the script, or behind the most bytes of one

pub returns-in-Err-reach_end-clause-ends : goal.returns-in-Err-reach_end-clause-ends
returns-in-Err-reach_end-clause-ends g c = λ known is.
    let lines = g.D.Lines.lines in
    let shown = g.D.Document.shown in
    let painter = g.D.Document.painter in
    let left = g.I.Source.left in
    let failed = g.I.Source.faults in
    let written = g.O.Sink.written in
    let refused = g.O.Sink.faults in
    let read = c.in-Ok.ensures.read known is in
    let caused = c.in-Ok.ensures.causes in
    let over = over_end (Unit {0}) _ (g.D.Document.library c.args.commands.now.document known)
    (standing lines shown painter c.args.commands.now) (standing lines shown painter c.read_pieces.new.commands) c.read_pieces.new.commands.harm.refused c.in-Ok.ended c.read_pieces.new.kept
    (left c.args.script.now) (left c.read_pieces.new.script) (left c.reach_end.new.script) (written c.args.out.now) (written c.read_pieces.new.out) (failed c.args.script.now) (failed c.read_pieces.new.script) (failed c.reach_end.new.script) (refused c.args.out.now) (refused c.read_pieces.new.out) c.args.steps.now c.read_pieces.new.steps
    read.0 c.in-Err-reach_end.end read.1 read.2 caused.1.readable caused.3.0 c.in-Err-reach_end.ensures in
    over.0

pub returns-in-Err-reach_end-clause-within : goal.returns-in-Err-reach_end-clause-within
returns-in-Err-reach_end-clause-within g c = λ known is.
    let lines = g.D.Lines.lines in
    let shown = g.D.Document.shown in
    let painter = g.D.Document.painter in
    let left = g.I.Source.left in
    let failed = g.I.Source.faults in
    let written = g.O.Sink.written in
    let refused = g.O.Sink.faults in
    let read = c.in-Ok.ensures.read known is in
    let caused = c.in-Ok.ensures.causes in
    let over = over_end (Unit {0}) _ (g.D.Document.library c.args.commands.now.document known)
    (standing lines shown painter c.args.commands.now) (standing lines shown painter c.read_pieces.new.commands) c.read_pieces.new.commands.harm.refused c.in-Ok.ended c.read_pieces.new.kept
    (left c.args.script.now) (left c.read_pieces.new.script) (left c.reach_end.new.script) (written c.args.out.now) (written c.read_pieces.new.out) (failed c.args.script.now) (failed c.read_pieces.new.script) (failed c.reach_end.new.script) (refused c.args.out.now) (refused c.read_pieces.new.out) c.args.steps.now c.read_pieces.new.steps
    read.0 c.in-Err-reach_end.end read.1 read.2 caused.1.readable caused.3.0 c.in-Err-reach_end.ensures in
    over.1

pub returns-in-Err-reach_end-clause-causes : goal.returns-in-Err-reach_end-clause-causes
returns-in-Err-reach_end-clause-causes g c =
    let lines = g.D.Lines.lines in
    let shown = g.D.Document.shown in
    let painter = g.D.Document.painter in
    let left = g.I.Source.left in
    let failed = g.I.Source.faults in
    let written = g.O.Sink.written in
    let refused = g.O.Sink.faults in
    let told = g.F.Files.told in
    let lost = g.F.Files.faults in
    let misses = g.F.Files.misses in
    let longs = g.F.Files.longs in
    let caused = c.in-Ok.ensures.causes in
    let over = script_over (Unit {0}) _ Bool c.args.commands.now.harm c.read_pieces.new.commands.harm c.in-Ok.ended
    (left c.args.script.now) (left c.read_pieces.new.script) (left c.reach_end.new.script) (failed c.args.script.now) (failed c.read_pieces.new.script) (failed c.reach_end.new.script)
    (files_change (told c.args.files.now) (told c.read_pieces.new.files) (lost c.args.files.now) (lost c.read_pieces.new.files) (misses c.args.files.now) (misses c.read_pieces.new.files) (longs c.args.files.now) (longs c.read_pieces.new.files)) (sink_change (written c.args.out.now) (written c.read_pieces.new.out) (refused c.args.out.now) (refused c.read_pieces.new.out)) caused.0 c.in-Ok.ended c.in-Err-reach_end.end caused.1 caused.2 caused.3 c.in-Err-reach_end.ensures in
    over.0

pub returns-in-Err-reach_end-clause-taken : goal.returns-in-Err-reach_end-clause-taken
returns-in-Err-reach_end-clause-taken g c =
    let lines = g.D.Lines.lines in
    let shown = g.D.Document.shown in
    let painter = g.D.Document.painter in
    let left = g.I.Source.left in
    let failed = g.I.Source.faults in
    let written = g.O.Sink.written in
    let refused = g.O.Sink.faults in
    let told = g.F.Files.told in
    let lost = g.F.Files.faults in
    let misses = g.F.Files.misses in
    let longs = g.F.Files.longs in
    let caused = c.in-Ok.ensures.causes in
    let over = script_over (Unit {0}) _ Bool c.args.commands.now.harm c.read_pieces.new.commands.harm c.in-Ok.ended
    (left c.args.script.now) (left c.read_pieces.new.script) (left c.reach_end.new.script) (failed c.args.script.now) (failed c.read_pieces.new.script) (failed c.reach_end.new.script)
    (files_change (told c.args.files.now) (told c.read_pieces.new.files) (lost c.args.files.now) (lost c.read_pieces.new.files) (misses c.args.files.now) (misses c.read_pieces.new.files) (longs c.args.files.now) (longs c.read_pieces.new.files)) (sink_change (written c.args.out.now) (written c.read_pieces.new.out) (refused c.args.out.now) (refused c.read_pieces.new.out)) caused.0 c.in-Ok.ended c.in-Err-reach_end.end caused.1 caused.2 caused.3 c.in-Err-reach_end.ensures in
    over.1

-- ---- and the commands that are left were carried out

pub returns-clause-ends : goal.returns-clause-ends
returns-clause-ends g c = λ known is.
    let lines = g.D.Lines.lines in
    let shown = g.D.Document.shown in
    let painter = g.D.Document.painter in
    let left = g.I.Source.left in
    let failed = g.I.Source.faults in
    let written = g.O.Sink.written in
    let refused = g.O.Sink.faults in
    let told = g.F.Files.told in
    let lost = g.F.Files.faults in
    let misses = g.F.Files.misses in
    let longs = g.F.Files.longs in
    let library = g.D.Document.library c.args.commands.now.document known in
    let read = c.in-Ok.ensures.read known is in
    let caused = c.in-Ok.ensures.causes in
    let s = standing lines shown painter c.args.commands.now in
    let now = standing lines shown painter c.read_pieces.new.commands in
    let next = standing lines shown painter c.finish.new.commands in
    let reached = reached_end _ library s now c.in-Ok.ended c.read_pieces.new.kept
    (left c.args.script.now) (left c.read_pieces.new.script) (left c.reach_end.new.script) (written c.args.out.now) (written c.read_pieces.new.out) (failed c.args.script.now) (failed c.read_pieces.new.script) (failed c.reach_end.new.script) (refused c.args.out.now) (refused c.read_pieces.new.out) c.args.steps.now c.read_pieces.new.steps
    read.0 c.in-Ok-reach_end.field-0 read.1 read.2 c.in-Ok-reach_end.ensures in
    let all = took_all _ c.in-Ok.ended (left c.args.script.now) (left c.read_pieces.new.script) (left c.reach_end.new.script) (failed c.args.script.now) (failed c.read_pieces.new.script) (failed c.reach_end.new.script) caused.0 c.in-Ok-reach_end.field-0 caused.1 caused.2 c.in-Ok-reach_end.ensures in
    let told_still = c.in-Ok.ensures.kept ∙ is in
    let done = finished _ library (g.D.Document.library c.read_pieces.new.commands.document known) (ap (λ f. f known) c.in-Ok.ensures.library) s now next c.read_pieces.new.kept
    (left c.args.script.now) (left c.reach_end.new.script) (written c.args.out.now) (written c.read_pieces.new.out) (written c.finish.new.out) (failed c.args.script.now) (failed c.reach_end.new.script) (refused c.args.out.now) (refused c.read_pieces.new.out) (refused c.finish.new.out) c.args.steps.now c.read_pieces.new.steps c.finish.new.steps
    read.0 c.read_pieces.new.commands.harm c.finish.new.commands.harm (files_change (told c.read_pieces.new.files) (told c.finish.new.files) (lost c.read_pieces.new.files) (lost c.finish.new.files) (misses c.read_pieces.new.files) (misses c.finish.new.files) (longs c.read_pieces.new.files) (longs c.finish.new.files)) c.finish.result reached.0 reached.1 all.0.readable caused.3.0
    (c.finish.ensures.answers known told_still) (c.finish.ensures.steps known told_still) c.finish.ensures.causes in
    done.0

pub returns-clause-within : goal.returns-clause-within
returns-clause-within g c = λ known is.
    let lines = g.D.Lines.lines in
    let shown = g.D.Document.shown in
    let painter = g.D.Document.painter in
    let left = g.I.Source.left in
    let failed = g.I.Source.faults in
    let written = g.O.Sink.written in
    let refused = g.O.Sink.faults in
    let told = g.F.Files.told in
    let lost = g.F.Files.faults in
    let misses = g.F.Files.misses in
    let longs = g.F.Files.longs in
    let library = g.D.Document.library c.args.commands.now.document known in
    let read = c.in-Ok.ensures.read known is in
    let caused = c.in-Ok.ensures.causes in
    let s = standing lines shown painter c.args.commands.now in
    let now = standing lines shown painter c.read_pieces.new.commands in
    let next = standing lines shown painter c.finish.new.commands in
    let reached = reached_end _ library s now c.in-Ok.ended c.read_pieces.new.kept
    (left c.args.script.now) (left c.read_pieces.new.script) (left c.reach_end.new.script) (written c.args.out.now) (written c.read_pieces.new.out) (failed c.args.script.now) (failed c.read_pieces.new.script) (failed c.reach_end.new.script) (refused c.args.out.now) (refused c.read_pieces.new.out) c.args.steps.now c.read_pieces.new.steps
    read.0 c.in-Ok-reach_end.field-0 read.1 read.2 c.in-Ok-reach_end.ensures in
    let all = took_all _ c.in-Ok.ended (left c.args.script.now) (left c.read_pieces.new.script) (left c.reach_end.new.script) (failed c.args.script.now) (failed c.read_pieces.new.script) (failed c.reach_end.new.script) caused.0 c.in-Ok-reach_end.field-0 caused.1 caused.2 c.in-Ok-reach_end.ensures in
    let told_still = c.in-Ok.ensures.kept ∙ is in
    let done = finished _ library (g.D.Document.library c.read_pieces.new.commands.document known) (ap (λ f. f known) c.in-Ok.ensures.library) s now next c.read_pieces.new.kept
    (left c.args.script.now) (left c.reach_end.new.script) (written c.args.out.now) (written c.read_pieces.new.out) (written c.finish.new.out) (failed c.args.script.now) (failed c.reach_end.new.script) (refused c.args.out.now) (refused c.read_pieces.new.out) (refused c.finish.new.out) c.args.steps.now c.read_pieces.new.steps c.finish.new.steps
    read.0 c.read_pieces.new.commands.harm c.finish.new.commands.harm (files_change (told c.read_pieces.new.files) (told c.finish.new.files) (lost c.read_pieces.new.files) (lost c.finish.new.files) (misses c.read_pieces.new.files) (misses c.finish.new.files) (longs c.read_pieces.new.files) (longs c.finish.new.files)) c.finish.result reached.0 reached.1 all.0.readable caused.3.0
    (c.finish.ensures.answers known told_still) (c.finish.ensures.steps known told_still) c.finish.ensures.causes in
    done.1

pub returns-clause-causes : goal.returns-clause-causes
returns-clause-causes g c =
    let lines = g.D.Lines.lines in
    let shown = g.D.Document.shown in
    let painter = g.D.Document.painter in
    let left = g.I.Source.left in
    let failed = g.I.Source.faults in
    let written = g.O.Sink.written in
    let refused = g.O.Sink.faults in
    let told = g.F.Files.told in
    let lost = g.F.Files.faults in
    let misses = g.F.Files.misses in
    let longs = g.F.Files.longs in
    let caused = c.in-Ok.ensures.causes in
    let all = took_all _ c.in-Ok.ended (left c.args.script.now) (left c.read_pieces.new.script) (left c.reach_end.new.script) (failed c.args.script.now) (failed c.read_pieces.new.script) (failed c.reach_end.new.script) caused.0 c.in-Ok-reach_end.field-0 caused.1 caused.2 c.in-Ok-reach_end.ensures in
    script_finished _ c.args.commands.now.harm c.finish.new.commands.harm
    (source_change (left c.args.script.now) (left c.reach_end.new.script) (failed c.args.script.now) (failed c.reach_end.new.script)) (files_change (told c.args.files.now) (told c.finish.new.files) (lost c.args.files.now) (lost c.finish.new.files) (misses c.args.files.now) (misses c.finish.new.files) (longs c.args.files.now) (longs c.finish.new.files)) (sink_change (written c.args.out.now) (written c.finish.new.out) (refused c.args.out.now) (refused c.finish.new.out)) caused.0 c.finish.result all.1 all.0
    (caused_further Bool _ c.args.commands.now.harm c.read_pieces.new.commands.harm c.finish.new.commands.harm
    (told c.args.files.now) (told c.read_pieces.new.files) (told c.finish.new.files) (lost c.args.files.now) (lost c.read_pieces.new.files) (lost c.finish.new.files) (misses c.args.files.now) (misses c.read_pieces.new.files) (misses c.finish.new.files) (longs c.args.files.now) (longs c.read_pieces.new.files) (longs c.finish.new.files)
    (written c.args.out.now) (written c.read_pieces.new.out) (written c.finish.new.out) (refused c.args.out.now) (refused c.read_pieces.new.out) (refused c.finish.new.out) c.in-Ok.ended c.finish.result caused.3 c.finish.ensures.causes)

pub returns-clause-taken : goal.returns-clause-taken
returns-clause-taken g c =
    let lines = g.D.Lines.lines in
    let shown = g.D.Document.shown in
    let painter = g.D.Document.painter in
    let left = g.I.Source.left in
    let failed = g.I.Source.faults in
    let written = g.O.Sink.written in
    let refused = g.O.Sink.faults in
    let caused = c.in-Ok.ensures.causes in
    let all = took_all _ c.in-Ok.ended (left c.args.script.now) (left c.read_pieces.new.script) (left c.reach_end.new.script) (failed c.args.script.now) (failed c.read_pieces.new.script) (failed c.reach_end.new.script) caused.0 c.in-Ok-reach_end.field-0 caused.1 caused.2 c.in-Ok-reach_end.ensures in
    took_few (source_change (left c.args.script.now) (left c.reach_end.new.script) (failed c.args.script.now) (failed c.reach_end.new.script)) caused.0 all.0

-- ---- files that are too long

pub returns-in-Err-clause-longs : goal.returns-in-Err-clause-longs
returns-in-Err-clause-longs g c = λ known is.
    stopped_unmet (Unit {0}) (g.D.Document.library c.args.commands.now.document known) (standing g.D.Lines.lines g.D.Document.shown g.D.Document.painter c.args.commands.now)
    (g.I.Source.left c.args.script.now) c.read_pieces.new.commands.harm.met_long c.args.commands.now.harm c.read_pieces.new.commands.harm
    (source_change (g.I.Source.left c.args.script.now) (g.I.Source.left c.read_pieces.new.script) (g.I.Source.faults c.args.script.now) (g.I.Source.faults c.read_pieces.new.script))
    (files_change (g.F.Files.told c.args.files.now) (g.F.Files.told c.read_pieces.new.files) (g.F.Files.faults c.args.files.now) (g.F.Files.faults c.read_pieces.new.files) (g.F.Files.misses c.args.files.now) (g.F.Files.misses c.read_pieces.new.files) (g.F.Files.longs c.args.files.now) (g.F.Files.longs c.read_pieces.new.files))
    (sink_change (g.O.Sink.written c.args.out.now) (g.O.Sink.written c.read_pieces.new.out) (g.O.Sink.faults c.args.out.now) (g.O.Sink.faults c.read_pieces.new.out))
    c.in-Err.end c.in-Err.ensures.causes

pub returns-in-Err-reach_end-clause-longs : goal.returns-in-Err-reach_end-clause-longs
returns-in-Err-reach_end-clause-longs g c = λ known is.
    let lines = g.D.Lines.lines in
    let shown = g.D.Document.shown in
    let painter = g.D.Document.painter in
    let left = g.I.Source.left in
    let failed = g.I.Source.faults in
    let written = g.O.Sink.written in
    let refused = g.O.Sink.faults in
    let read = c.in-Ok.ensures.read known is in
    met_over (Unit {0}) _ (g.D.Document.library c.args.commands.now.document known) (standing lines shown painter c.args.commands.now) (standing lines shown painter c.read_pieces.new.commands) c.in-Ok.ended c.read_pieces.new.kept
    (left c.args.script.now) (left c.read_pieces.new.script) (left c.reach_end.new.script) (written c.args.out.now) (written c.read_pieces.new.out) (failed c.args.script.now) (failed c.read_pieces.new.script) (failed c.reach_end.new.script) (refused c.args.out.now) (refused c.read_pieces.new.out) c.args.steps.now c.read_pieces.new.steps
    read.0 c.in-Err-reach_end.end read.1 read.2 c.in-Err-reach_end.ensures

pub returns-clause-longs : goal.returns-clause-longs
returns-clause-longs g c = λ known is.
    let lines = g.D.Lines.lines in
    let shown = g.D.Document.shown in
    let painter = g.D.Document.painter in
    let left = g.I.Source.left in
    let failed = g.I.Source.faults in
    let written = g.O.Sink.written in
    let refused = g.O.Sink.faults in
    let told = g.F.Files.told in
    let lost = g.F.Files.faults in
    let misses = g.F.Files.misses in
    let longs = g.F.Files.longs in
    let library = g.D.Document.library c.args.commands.now.document known in
    let read = c.in-Ok.ensures.read known is in
    let s = standing lines shown painter c.args.commands.now in
    let now = standing lines shown painter c.read_pieces.new.commands in
    let next = standing lines shown painter c.finish.new.commands in
    let reached = reached_end _ library s now c.in-Ok.ended c.read_pieces.new.kept
    (left c.args.script.now) (left c.read_pieces.new.script) (left c.reach_end.new.script) (written c.args.out.now) (written c.read_pieces.new.out) (failed c.args.script.now) (failed c.read_pieces.new.script) (failed c.reach_end.new.script) (refused c.args.out.now) (refused c.read_pieces.new.out) c.args.steps.now c.read_pieces.new.steps
    read.0 c.in-Ok-reach_end.field-0 read.1 read.2 c.in-Ok-reach_end.ensures in
    let told_still = c.in-Ok.ensures.kept ∙ is in
    met_whole _ library (g.D.Document.library c.read_pieces.new.commands.document known) (ap (λ f. f known) c.in-Ok.ensures.library) s now next c.read_pieces.new.kept
    (left c.args.script.now) (left c.reach_end.new.script) (written c.args.out.now) (written c.read_pieces.new.out) (written c.finish.new.out) (failed c.args.script.now) (failed c.reach_end.new.script) (refused c.args.out.now) (refused c.read_pieces.new.out) (refused c.finish.new.out) c.args.steps.now c.read_pieces.new.steps
    read.0 c.read_pieces.new.commands.harm c.finish.new.commands.harm (files_change (told c.read_pieces.new.files) (told c.finish.new.files) (lost c.read_pieces.new.files) (lost c.finish.new.files) (misses c.read_pieces.new.files) (misses c.finish.new.files) (longs c.read_pieces.new.files) (longs c.finish.new.files)) c.finish.result reached.0 reached.1
    (c.finish.ensures.answers known told_still) c.finish.ensures.causes

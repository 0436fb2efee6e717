use Rattle.std.proofs.Common.{subst}
use Rattle.std.specs.Prelude.{Option}
use Rattle.program_words.specs.declared.words.Asked.{Asked}
use Rattle.vimsyn_cli.specs.LargeRun.{RunsIfLarge}
use Rattle.vimsyn_cli.specs.Runs.{CountsNamed, IfTold, PaintsFew, Runs}
use Rattle.vimsyn_cli.specs.Session.{script_read}
use Rattle.vimsyn_cli.proofs.session.run.Goals as goal

pub returns-clause-session : goal.returns-clause-session
returns-clause-session g c =
    let R : Option Asked → Type 0 = λ asked. Runs asked
    (record { told = g.F.Files.told c.args.files.now; told_after = g.F.Files.told c.run_asked.new.files; faults = g.F.Files.faults c.args.files.now; faults_after = g.F.Files.faults c.run_asked.new.files; misses = g.F.Files.misses c.args.files.now; misses_after = g.F.Files.misses c.run_asked.new.files; longs = g.F.Files.longs c.args.files.now; longs_after = g.F.Files.longs c.run_asked.new.files })
    (record { before = g.I.Source.left c.args.script.now; after = g.I.Source.left c.run_asked.new.script; faults = g.I.Source.faults c.args.script.now; faults_after = g.I.Source.faults c.run_asked.new.script })
    (record { before = g.O.Sink.written c.args.out.now; after = g.O.Sink.written c.run_asked.new.out; faults = g.O.Sink.faults c.args.out.now; faults_after = g.O.Sink.faults c.run_asked.new.out })
    (record { before = g.E.Sink.written c.args.err.now; after = g.E.Sink.written c.run_asked.new.err; faults = g.E.Sink.faults c.args.err.now; faults_after = g.E.Sink.faults c.run_asked.new.err }) c.run_asked.result in
    (subst R c.read-asked.ensures c.run_asked.ensures.runs).session

pub returns-clause-runs : goal.returns-clause-runs
returns-clause-runs g c =
    let R : Option Asked → Type 0 = λ asked. Runs asked
    (record { told = g.F.Files.told c.args.files.now; told_after = g.F.Files.told c.run_asked.new.files; faults = g.F.Files.faults c.args.files.now; faults_after = g.F.Files.faults c.run_asked.new.files; misses = g.F.Files.misses c.args.files.now; misses_after = g.F.Files.misses c.run_asked.new.files; longs = g.F.Files.longs c.args.files.now; longs_after = g.F.Files.longs c.run_asked.new.files })
    (record { before = g.I.Source.left c.args.script.now; after = g.I.Source.left c.run_asked.new.script; faults = g.I.Source.faults c.args.script.now; faults_after = g.I.Source.faults c.run_asked.new.script })
    (record { before = g.O.Sink.written c.args.out.now; after = g.O.Sink.written c.run_asked.new.out; faults = g.O.Sink.faults c.args.out.now; faults_after = g.O.Sink.faults c.run_asked.new.out })
    (record { before = g.E.Sink.written c.args.err.now; after = g.E.Sink.written c.run_asked.new.err; faults = g.E.Sink.faults c.args.err.now; faults_after = g.E.Sink.faults c.run_asked.new.err }) c.run_asked.result in
    subst R c.read-asked.ensures c.run_asked.ensures.runs

pub returns-clause-large : goal.returns-clause-large
returns-clause-large g c =
    let R : Option Asked → Type 0 = λ asked. RunsIfLarge asked
    (record { before = g.O.Sink.written c.args.out.now; after = g.O.Sink.written c.run_asked.new.out; faults = g.O.Sink.faults c.args.out.now; faults_after = g.O.Sink.faults c.run_asked.new.out })
    (record { before = g.E.Sink.written c.args.err.now; after = g.E.Sink.written c.run_asked.new.err; faults = g.E.Sink.faults c.args.err.now; faults_after = g.E.Sink.faults c.run_asked.new.err }) c.run_asked.result in
    subst R c.read-asked.ensures c.run_asked.ensures.large

pub returns-clause-steps : goal.returns-clause-steps
returns-clause-steps g c =
    let R : Option Asked → Type 0 = λ asked. IfTold (g.F.Files.told c.args.files.now) (script_read asked (g.I.Source.left c.args.script.now))
    (λ known bytes. PaintsFew asked known bytes c.args.steps.now c.run_asked.new.steps) in
    subst R c.read-asked.ensures c.run_asked.ensures.steps

pub returns-clause-long_named : goal.returns-clause-long_named
returns-clause-long_named g c = λ is.
    let R : Option Asked → Type 0 = λ asked. IfTold (g.F.Files.told c.args.files.now) (script_read asked (g.I.Source.left c.args.script.now))
    (λ known bytes. CountsNamed asked known bytes
    (record { told = g.F.Files.told c.args.files.now; told_after = g.F.Files.told c.run_asked.new.files; faults = g.F.Files.faults c.args.files.now; faults_after = g.F.Files.faults c.run_asked.new.files; misses = g.F.Files.misses c.args.files.now; misses_after = g.F.Files.misses c.run_asked.new.files; longs = g.F.Files.longs c.args.files.now; longs_after = g.F.Files.longs c.run_asked.new.files })) in
    subst R c.read-asked.ensures (c.run_asked.ensures.long_named is)

use Rattle.std.proofs.Common.{[], refl}
use Rattle.std.specs.Prelude.{Some}
use Rattle.program_words.specs.declared.words.Asked.TheVariants.{Print}
use Rattle.vimsyn_cli.specs.Answers.{IsUnreadPrint}
use Rattle.vimsyn_cli.specs.Session.{print_told}
use Rattle.vimsyn_cli.proofs.EditLaws.{some_told}
use Rattle.vimsyn_cli.proofs.PlanLaws.{planned}
use Rattle.vimsyn_cli.proofs.RunLaws.{delivered_runs}
use Rattle.vimsyn_cli.proofs.session.run_print.Goals as goal

pub returns-clause-runs : goal.returns-clause-runs
returns-clause-runs g c =
    let read = c.print-answer.ensures.reads in
    delivered_runs (Print c.args.printing.now) c.print-answer.result
    (record { told = g.F.Files.told c.args.files.now; told_after = g.F.Files.told c.print-answer.new.files; faults = g.F.Files.faults c.args.files.now; faults_after = g.F.Files.faults c.print-answer.new.files; misses = g.F.Files.misses c.args.files.now; misses_after = g.F.Files.misses c.print-answer.new.files; longs = g.F.Files.longs c.args.files.now; longs_after = g.F.Files.longs c.print-answer.new.files })
    (record { before = g.I.Source.left c.args.script.now; after = g.I.Source.left c.args.script.now; faults = g.I.Source.faults c.args.script.now; faults_after = g.I.Source.faults c.args.script.now })
    (record { before = g.O.Sink.written c.args.out.now; after = g.O.Sink.written c.deliver.new.out; faults = g.O.Sink.faults c.args.out.now; faults_after = g.O.Sink.faults c.deliver.new.out })
    (record { before = g.E.Sink.written c.args.err.now; after = g.E.Sink.written c.deliver.new.err; faults = g.E.Sink.faults c.args.err.now; faults_after = g.E.Sink.faults c.deliver.new.err })
    c.deliver.result
    (some_told (g.F.Files.told c.args.files.now) (Some []) _ (planned (g.F.Files.told c.args.files.now) (print_told c.args.printing.now) (IsUnreadPrint c.args.printing.now) c.print-answer.result read.planned))
    read.told read.faults read.misses read.longs read.kept tt refl refl c.deliver.ensures (λ is. tt)

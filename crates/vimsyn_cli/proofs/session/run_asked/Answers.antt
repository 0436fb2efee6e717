use Rattle.std.proofs.Common.{◌≡◌, ◌≤◌, ◌+◌, [], refl, subst, sym}
use Rattle.std.specs.Prelude.{Option, Some, ⊤}
use Rattle.program_words.specs.declared.words.Asked.{Asked}
use Rattle.program_words.specs.declared.words.Asked.TheVariants.{Edit, Large, Print}
use Rattle.vimsyn_cli.specs.Changes.{files_change}
use Rattle.vimsyn_cli.specs.Large.{large_lines}
use Rattle.vimsyn_cli.specs.Runs.{CountsNamed, IfTold, PaintsFew, Runs}
use Rattle.vimsyn_cli.specs.Session.{print_lines, script_read}
use Rattle.vimsyn_cli.proofs.EditLaws.{some_told}
use Rattle.vimsyn_cli.proofs.RunLaws.{told_all, usage_runs}
use Rattle.vimsyn_cli.proofs.LargeLaws.{large_runs}
use Rattle.vimsyn_cli.proofs.session.run_asked.Goals as goal

pub returns-in-None-clause-runs : goal.returns-in-None-clause-runs
returns-in-None-clause-runs g c =
    let R : Option Asked → Type 0 = λ asked. Runs asked
    (record { told = g.F.Files.told c.args.files.now; told_after = g.F.Files.told c.args.files.now; faults = g.F.Files.faults c.args.files.now; faults_after = g.F.Files.faults c.args.files.now; misses = g.F.Files.misses c.args.files.now; misses_after = g.F.Files.misses c.args.files.now; longs = g.F.Files.longs c.args.files.now; longs_after = g.F.Files.longs c.args.files.now })
    (record { before = g.I.Source.left c.args.script.now; after = g.I.Source.left c.args.script.now; faults = g.I.Source.faults c.args.script.now; faults_after = g.I.Source.faults c.args.script.now })
    (record { before = g.O.Sink.written c.args.out.now; after = g.O.Sink.written c.args.out.now; faults = g.O.Sink.faults c.args.out.now; faults_after = g.O.Sink.faults c.args.out.now })
    (record { before = g.E.Sink.written c.args.err.now; after = g.E.Sink.written c.finish.new.sink; faults = g.E.Sink.faults c.args.err.now; faults_after = g.E.Sink.faults c.finish.new.sink }) c.finish.result in
    subst R (sym c.in-None.is)
    (usage_runs
    (record { told = g.F.Files.told c.args.files.now; told_after = g.F.Files.told c.args.files.now; faults = g.F.Files.faults c.args.files.now; faults_after = g.F.Files.faults c.args.files.now; misses = g.F.Files.misses c.args.files.now; misses_after = g.F.Files.misses c.args.files.now; longs = g.F.Files.longs c.args.files.now; longs_after = g.F.Files.longs c.args.files.now })
    (record { before = g.I.Source.left c.args.script.now; after = g.I.Source.left c.args.script.now; faults = g.I.Source.faults c.args.script.now; faults_after = g.I.Source.faults c.args.script.now })
    (record { before = g.O.Sink.written c.args.out.now; after = g.O.Sink.written c.args.out.now; faults = g.O.Sink.faults c.args.out.now; faults_after = g.O.Sink.faults c.args.out.now })
    (record { before = g.E.Sink.written c.args.err.now; after = g.E.Sink.written c.finish.new.sink; faults = g.E.Sink.faults c.args.err.now; faults_after = g.E.Sink.faults c.finish.new.sink })
    c.finish.result refl refl refl refl refl refl (refl, refl) c.finish.ensures)

pub returns-in-Some-Large-clause-runs : goal.returns-in-Some-Large-clause-runs
returns-in-Some-Large-clause-runs g c =
    let R : Option Asked → Type 0 = λ asked. Runs asked
    (record { told = g.F.Files.told c.args.files.now; told_after = g.F.Files.told c.args.files.now; faults = g.F.Files.faults c.args.files.now; faults_after = g.F.Files.faults c.args.files.now; misses = g.F.Files.misses c.args.files.now; misses_after = g.F.Files.misses c.args.files.now; longs = g.F.Files.longs c.args.files.now; longs_after = g.F.Files.longs c.args.files.now })
    (record { before = g.I.Source.left c.args.script.now; after = g.I.Source.left c.args.script.now; faults = g.I.Source.faults c.args.script.now; faults_after = g.I.Source.faults c.args.script.now })
    (record { before = g.O.Sink.written c.args.out.now; after = g.O.Sink.written c.run_large.new.out; faults = g.O.Sink.faults c.args.out.now; faults_after = g.O.Sink.faults c.run_large.new.out })
    (record { before = g.E.Sink.written c.args.err.now; after = g.E.Sink.written c.run_large.new.err; faults = g.E.Sink.faults c.args.err.now; faults_after = g.E.Sink.faults c.run_large.new.err }) c.run_large.result in
    let is : c.args.asked ≡ Some (Large c.in-Some-Large.words) = cc (c.in-Some-Large.is, c.in-Some-Large.field-0-is, c.in-Some-Large.words-is) in
    subst R (sym is)
    (large_runs c.in-Some-Large.words
    (record { told = g.F.Files.told c.args.files.now; told_after = g.F.Files.told c.args.files.now; faults = g.F.Files.faults c.args.files.now; faults_after = g.F.Files.faults c.args.files.now; misses = g.F.Files.misses c.args.files.now; misses_after = g.F.Files.misses c.args.files.now; longs = g.F.Files.longs c.args.files.now; longs_after = g.F.Files.longs c.args.files.now })
    (record { before = g.I.Source.left c.args.script.now; after = g.I.Source.left c.args.script.now; faults = g.I.Source.faults c.args.script.now; faults_after = g.I.Source.faults c.args.script.now })
    (record { before = g.O.Sink.written c.args.out.now; after = g.O.Sink.written c.run_large.new.out; faults = g.O.Sink.faults c.args.out.now; faults_after = g.O.Sink.faults c.run_large.new.out })
    (record { before = g.E.Sink.written c.args.err.now; after = g.E.Sink.written c.run_large.new.err; faults = g.E.Sink.faults c.args.err.now; faults_after = g.E.Sink.faults c.run_large.new.err })
    c.run_large.result refl refl refl refl refl refl c.run_large.ensures.runs)

pub returns-in-None-clause-steps : goal.returns-in-None-clause-steps
returns-in-None-clause-steps g c =
    let R : Option Asked → Type 0 = λ asked. IfTold (g.F.Files.told c.args.files.now) (script_read asked (g.I.Source.left c.args.script.now))
    (λ known bytes. PaintsFew asked known bytes c.args.steps.now c.args.steps.now) in
    subst R (sym c.in-None.is) (told_all (g.F.Files.told c.args.files.now) (Some []) (λ known bytes. c.args.steps.now ≡ c.args.steps.now) (λ known bytes. refl))

pub returns-in-Some-Print-clause-steps : goal.returns-in-Some-Print-clause-steps
returns-in-Some-Print-clause-steps g c =
    let R : Option Asked → Type 0 = λ asked. IfTold (g.F.Files.told c.args.files.now) (script_read asked (g.I.Source.left c.args.script.now))
    (λ known bytes. PaintsFew asked known bytes c.args.steps.now c.run_print.new.steps) in
    let is : c.args.asked ≡ Some (Print c.in-Some-Print.printing) = cc (c.in-Some-Print.is, c.in-Some-Print.field-0-is, c.in-Some-Print.printing-is) in
    subst R (sym is)
    (some_told (g.F.Files.told c.args.files.now) (Some []) (λ known. c.run_print.new.steps ≤ c.args.steps.now + print_lines c.in-Some-Print.printing known) c.run_print.ensures.steps)

pub returns-in-Some-Edit-clause-steps : goal.returns-in-Some-Edit-clause-steps
returns-in-Some-Edit-clause-steps g c =
    let R : Option Asked → Type 0 = λ asked. IfTold (g.F.Files.told c.args.files.now) (script_read asked (g.I.Source.left c.args.script.now))
    (λ known bytes. PaintsFew asked known bytes c.args.steps.now c.run_edit.new.steps) in
    let is : c.args.asked ≡ Some (Edit c.in-Some-Edit.words) = cc (c.in-Some-Edit.is, c.in-Some-Edit.field-0-is, c.in-Some-Edit.words-is) in
    subst R (sym is) c.run_edit.ensures.steps

pub returns-in-Some-Large-clause-steps : goal.returns-in-Some-Large-clause-steps
returns-in-Some-Large-clause-steps g c =
    let R : Option Asked → Type 0 = λ asked. IfTold (g.F.Files.told c.args.files.now) (script_read asked (g.I.Source.left c.args.script.now))
    (λ known bytes. PaintsFew asked known bytes c.args.steps.now c.run_large.new.steps) in
    let is : c.args.asked ≡ Some (Large c.in-Some-Large.words) = cc (c.in-Some-Large.is, c.in-Some-Large.field-0-is, c.in-Some-Large.words-is) in
    subst R (sym is)
    (told_all (g.F.Files.told c.args.files.now) (Some []) (λ known bytes. c.run_large.new.steps ≤ c.args.steps.now + large_lines c.in-Some-Large.words) (λ known bytes. c.run_large.ensures.steps))

pub returns-in-None-clause-long_named : goal.returns-in-None-clause-long_named
returns-in-None-clause-long_named g c = λ w.
    let R : Option Asked → Type 0 = λ asked. IfTold (g.F.Files.told c.args.files.now) (script_read asked (g.I.Source.left c.args.script.now))
    (λ known bytes. CountsNamed asked known bytes (files_change (g.F.Files.told c.args.files.now) (g.F.Files.told c.args.files.now) (g.F.Files.faults c.args.files.now) (g.F.Files.faults c.args.files.now) (g.F.Files.misses c.args.files.now) (g.F.Files.misses c.args.files.now) (g.F.Files.longs c.args.files.now) (g.F.Files.longs c.args.files.now))) in
    subst R (sym c.in-None.is)
    (told_all (g.F.Files.told c.args.files.now) (Some []) (λ known bytes. ⊤) (λ known bytes. tt))

pub returns-in-Some-Print-clause-long_named : goal.returns-in-Some-Print-clause-long_named
returns-in-Some-Print-clause-long_named g c = λ w.
    let R : Option Asked → Type 0 = λ asked. IfTold (g.F.Files.told c.args.files.now) (script_read asked (g.I.Source.left c.args.script.now))
    (λ known bytes. CountsNamed asked known bytes (files_change (g.F.Files.told c.args.files.now) (g.F.Files.told c.run_print.new.files) (g.F.Files.faults c.args.files.now) (g.F.Files.faults c.run_print.new.files) (g.F.Files.misses c.args.files.now) (g.F.Files.misses c.run_print.new.files) (g.F.Files.longs c.args.files.now) (g.F.Files.longs c.run_print.new.files))) in
    let is : c.args.asked ≡ Some (Print c.in-Some-Print.printing) = cc (c.in-Some-Print.is, c.in-Some-Print.field-0-is, c.in-Some-Print.printing-is) in
    subst R (sym is)
    (told_all (g.F.Files.told c.args.files.now) (Some []) (λ known bytes. ⊤) (λ known bytes. tt))

pub returns-in-Some-Large-clause-long_named : goal.returns-in-Some-Large-clause-long_named
returns-in-Some-Large-clause-long_named g c = λ w.
    let R : Option Asked → Type 0 = λ asked. IfTold (g.F.Files.told c.args.files.now) (script_read asked (g.I.Source.left c.args.script.now))
    (λ known bytes. CountsNamed asked known bytes (files_change (g.F.Files.told c.args.files.now) (g.F.Files.told c.args.files.now) (g.F.Files.faults c.args.files.now) (g.F.Files.faults c.args.files.now) (g.F.Files.misses c.args.files.now) (g.F.Files.misses c.args.files.now) (g.F.Files.longs c.args.files.now) (g.F.Files.longs c.args.files.now))) in
    let is : c.args.asked ≡ Some (Large c.in-Some-Large.words) = cc (c.in-Some-Large.is, c.in-Some-Large.field-0-is, c.in-Some-Large.words-is) in
    subst R (sym is)
    (told_all (g.F.Files.told c.args.files.now) (Some []) (λ known bytes. ⊤) (λ known bytes. tt))

pub returns-in-Some-Edit-clause-long_named : goal.returns-in-Some-Edit-clause-long_named
returns-in-Some-Edit-clause-long_named g c = λ w.
    let R : Option Asked → Type 0 = λ asked. IfTold (g.F.Files.told c.args.files.now) (script_read asked (g.I.Source.left c.args.script.now))
    (λ known bytes. CountsNamed asked known bytes (files_change (g.F.Files.told c.args.files.now) (g.F.Files.told c.run_edit.new.files) (g.F.Files.faults c.args.files.now) (g.F.Files.faults c.run_edit.new.files) (g.F.Files.misses c.args.files.now) (g.F.Files.misses c.run_edit.new.files) (g.F.Files.longs c.args.files.now) (g.F.Files.longs c.run_edit.new.files))) in
    let is : c.args.asked ≡ Some (Edit c.in-Some-Edit.words) = cc (c.in-Some-Edit.is, c.in-Some-Edit.field-0-is, c.in-Some-Edit.words-is) in
    subst R (sym is) (c.run_edit.ensures.long_named w)

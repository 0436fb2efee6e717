use Rattle.std.proofs.Common.{ℕ, List, refl, ◌∙◌}
use Rattle.std.specs.Prelude.{Err}
use Rattle.program_words.specs.declared.words.Asked.TheVariants.{Edit}
use Rattle.state_cache.specs.PaintedText.{PaintedText}
use Rattle.vimsyn_cli.specs.Changes.{files_change, sink_change}
use Rattle.vimsyn_cli.specs.Plans.{is_missing, is_too_long, is_unread}
use Rattle.vimsyn_cli.proofs.EditLaws.{edit_fault, edit_painted_told, edit_planned, edited_count, edited_runs, raises_again, stop_undone, unedited_count}
use Rattle.vimsyn_cli.proofs.LongLaws.{edited_counted, fault_counted}
use Rattle.vimsyn_cli.proofs.RunLaws.{delivered_runs}
use Rattle.vimsyn_cli.proofs.edit.run_edit.Goals as goal

pub returns-in-Ok-clause-runs : goal.returns-in-Ok-clause-runs
returns-in-Ok-clause-runs g c =
    let told = g.F.Files.told in
    let faults = g.F.Files.faults in
    let misses = g.F.Files.misses in
    let longs = g.F.Files.longs in
    let old = c.args.files.now in
    let mid = c.paint.new.files in
    let new = c.edit_painted.new.files in
    edited_runs c.args.words.now c.in-Ok.painted
    (told old) (told mid) (told new) (faults old) (faults mid) (faults new) (misses old) (misses mid) (misses new) (longs old) (longs mid) (longs new)
    (record { before = g.I.Source.left c.args.script.now; after = g.I.Source.left c.edit_painted.new.script; faults = g.I.Source.faults c.args.script.now; faults_after = g.I.Source.faults c.edit_painted.new.script })
    (record { before = g.O.Sink.written c.args.out.now; after = g.O.Sink.written c.edit_painted.new.out; faults = g.O.Sink.faults c.args.out.now; faults_after = g.O.Sink.faults c.edit_painted.new.out })
    (record { before = g.E.Sink.written c.args.err.now; after = g.E.Sink.written c.edit_painted.new.err; faults = g.E.Sink.faults c.args.err.now; faults_after = g.E.Sink.faults c.edit_painted.new.err })
    c.edit_painted.result
    (edit_painted_told c.args.words.now c.painting.result.now (told old) c.in-Ok.painted c.painting.ensures c.in-Ok.ensures.reads.planned)
    c.in-Ok.ensures.reads.kept c.in-Ok.ensures.reads.faults c.in-Ok.ensures.reads.misses c.in-Ok.ensures.reads.longs c.edit_painted.ensures.edits

pub returns-in-Err-clause-runs : goal.returns-in-Err-clause-runs
returns-in-Err-clause-runs g c =
    delivered_runs (Edit c.args.words.now) (Err c.in-Err.stop)
    (record { told = g.F.Files.told c.args.files.now; told_after = g.F.Files.told c.paint.new.files; faults = g.F.Files.faults c.args.files.now; faults_after = g.F.Files.faults c.paint.new.files; misses = g.F.Files.misses c.args.files.now; misses_after = g.F.Files.misses c.paint.new.files; longs = g.F.Files.longs c.args.files.now; longs_after = g.F.Files.longs c.paint.new.files })
    (record { before = g.I.Source.left c.args.script.now; after = g.I.Source.left c.args.script.now; faults = g.I.Source.faults c.args.script.now; faults_after = g.I.Source.faults c.args.script.now })
    (record { before = g.O.Sink.written c.args.out.now; after = g.O.Sink.written c.deliver.new.out; faults = g.O.Sink.faults c.args.out.now; faults_after = g.O.Sink.faults c.deliver.new.out })
    (record { before = g.E.Sink.written c.args.err.now; after = g.E.Sink.written c.deliver.new.err; faults = g.E.Sink.faults c.args.err.now; faults_after = g.E.Sink.faults c.deliver.new.err })
    c.deliver.result
    (edit_planned c.args.words.now c.painting.result.now (g.F.Files.told c.args.files.now) (g.I.Source.left c.args.script.now) c.in-Err.stop c.painting.ensures c.in-Err.ensures.reads.planned)
    (edit_fault c.args.words.now c.painting.result.now c.in-Err.stop c.painting.ensures c.in-Err.ensures.reads.told)
    (raises_again PaintedText (List ℕ) is_unread c.in-Err.stop _ _ c.in-Err.ensures.reads.faults) (raises_again PaintedText (List ℕ) is_missing c.in-Err.stop _ _ c.in-Err.ensures.reads.misses) (raises_again PaintedText (List ℕ) is_too_long c.in-Err.stop _ _ c.in-Err.ensures.reads.longs)
    c.in-Err.ensures.reads.kept tt refl refl c.deliver.ensures (λ is. absurd (stop_undone c.in-Err.stop _ _ c.deliver.result c.deliver.ensures is))

pub returns-in-Ok-clause-steps : goal.returns-in-Ok-clause-steps
returns-in-Ok-clause-steps g c =
    edited_count c.args.words.now c.painting.result.now (g.F.Files.told c.args.files.now) (g.I.Source.left c.args.script.now) c.in-Ok.painted
    c.args.steps.now c.paint.new.steps c.edit_painted.new.steps c.painting.ensures
    (edit_painted_told c.args.words.now c.painting.result.now (g.F.Files.told c.args.files.now) c.in-Ok.painted c.painting.ensures c.in-Ok.ensures.reads.planned)
    c.in-Ok.ensures.steps (λ known is. c.edit_painted.ensures.steps known (c.in-Ok.ensures.reads.kept ∙ is))

pub returns-in-Err-clause-steps : goal.returns-in-Err-clause-steps
returns-in-Err-clause-steps g c =
    unedited_count c.args.words.now c.painting.result.now (g.F.Files.told c.args.files.now) (g.I.Source.left c.args.script.now)
    c.args.steps.now c.paint.new.steps c.painting.ensures c.in-Err.ensures.steps

pub returns-in-Ok-clause-long_named : goal.returns-in-Ok-clause-long_named
returns-in-Ok-clause-long_named g c = λ is.
    let told = g.F.Files.told in
    let faults = g.F.Files.faults in
    let misses = g.F.Files.misses in
    let longs = g.F.Files.longs in
    let old = c.args.files.now in
    let mid = c.paint.new.files in
    let new = c.edit_painted.new.files in
    edited_counted c.args.words.now c.in-Ok.painted
    (told old) (told mid) (told new) (faults old) (faults mid) (faults new) (misses old) (misses mid) (misses new) (longs old) (longs mid) (longs new)
    (g.I.Source.left c.args.script.now)
    (edit_painted_told c.args.words.now c.painting.result.now (told old) c.in-Ok.painted c.painting.ensures c.in-Ok.ensures.reads.planned)
    c.in-Ok.ensures.reads.kept c.in-Ok.ensures.reads.longs (c.edit_painted.ensures.long_named is)

pub returns-in-Err-clause-long_named : goal.returns-in-Err-clause-long_named
returns-in-Err-clause-long_named g c = λ is.
    let told = g.F.Files.told in
    let faults = g.F.Files.faults in
    let misses = g.F.Files.misses in
    let longs = g.F.Files.longs in
    let old = c.args.files.now in
    let new = c.paint.new.files in
    fault_counted c.args.words.now c.painting.result.now (told old) (g.I.Source.left c.args.script.now) c.in-Err.stop
    (files_change (told old) (told new) (faults old) (faults new) (misses old) (misses new) (longs old) (longs new))
    (sink_change (g.O.Sink.written c.args.out.now) (g.O.Sink.written c.deliver.new.out) (g.O.Sink.faults c.args.out.now) (g.O.Sink.faults c.deliver.new.out))
    (sink_change (g.E.Sink.written c.args.err.now) (g.E.Sink.written c.deliver.new.err) (g.E.Sink.faults c.args.err.now) (g.E.Sink.faults c.deliver.new.err))
    c.deliver.result c.painting.ensures c.in-Err.ensures.reads.planned c.deliver.ensures is

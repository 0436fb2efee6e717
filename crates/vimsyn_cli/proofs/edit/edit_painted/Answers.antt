use Rattle.vimsyn_cli.specs.Changes.{files_change, sink_change}
use Rattle.vimsyn_cli.specs.EditRun.{edit_start}
use Rattle.vimsyn_cli.specs.Renewal.{library_of}
use Rattle.vimsyn_cli.proofs.LongLaws.{named_counted}
use Rattle.vimsyn_cli.proofs.edit.edit_painted.Goals as goal

pub returns-clause-edits : goal.returns-clause-edits
returns-clause-edits g c = record {
  is_painted = c.syntax-syntax.ensures.painted;
  kept = c.carry_out_script-end.ensures.kept;
  end = c.carry_out_script-end.result;
  ends = c.carry_out_script-end.ensures.ends;
  causes = c.carry_out_script-end.ensures.causes;
  closes = c.close.ensures;
  taken = c.carry_out_script-end.ensures.taken;
  part = c.carry_out_script-end.ensures.part;
}

pub returns-clause-long_named : goal.returns-clause-long_named
returns-clause-long_named g c = λ is known at.
    let told = g.F.Files.told in
    let faults = g.F.Files.faults in
    let misses = g.F.Files.misses in
    let longs = g.F.Files.longs in
    let words = c.args.words.now in
    let old = c.args.files.now in
    let new = c.carry_out_script-end.new.files in
    named_counted c.carry_out_script-end.result (library_of words c.args.painted.budget known) (edit_start words c.args.painted) (g.I.Source.left c.args.script.now)
    (files_change (told old) (told new) (faults old) (faults new) (misses old) (misses new) (longs old) (longs new))
    (sink_change (g.E.Sink.written c.args.err.now) (g.E.Sink.written c.close.new.err) (g.E.Sink.faults c.args.err.now) (g.E.Sink.faults c.close.new.err)) c.close.result
    (c.carry_out_script-end.ensures.longs known at) c.close.ensures is

use Rattle.std.proofs.Common.{false, refl}
use Rattle.edit_session.specs.declared.commands.Harm.{Harm}
use Rattle.edit_session.specs.Ends.{files_change, sink_change, source_change}
use Rattle.edit_session.specs.Session.{start}
use Rattle.edit_session.proofs.LongLaws.{counted_over, counted_whole}
use Rattle.edit_session.proofs.reading.carry_out_script.Goals as goal

pub returns-in-Ok-clause-part : goal.returns-in-Ok-clause-part
returns-in-Ok-clause-part g c = λ known is. (c.in-Ok.ensures.within known is).part

pub returns-in-Ok-clause-steps : goal.returns-in-Ok-clause-steps
returns-in-Ok-clause-steps g c = λ known is. (c.in-Ok.ensures.within known is).painted

pub returns-clause-part : goal.returns-clause-part
returns-clause-part g c = λ known is. (c.in-Err.ensures.within known is).part

pub returns-clause-steps : goal.returns-clause-steps
returns-clause-steps g c = λ known is. (c.in-Err.ensures.within known is).painted

pub returns-in-Ok-clause-longs : goal.returns-in-Ok-clause-longs
returns-in-Ok-clause-longs g c = λ known is.
    let told = g.F.Files.told in
    let lost = g.F.Files.faults in
    let misses = g.F.Files.misses in
    let longs = g.F.Files.longs in
    let left = g.I.Source.left in
    let failed = g.I.Source.faults in
    let written = g.O.Sink.written in
    let refused = g.O.Sink.faults in
    let document = c.args.document in
    let s = start (g.D.Document.painter document) (record { text = g.D.Lines.lines document; spans = g.D.Document.shown document }) in
    let none : Harm = record { refused = false; met_long = false } in
    counted_whole (Unit {0}) (g.D.Document.library document known) s none c.read_script.new.commands.harm
    (source_change (left c.args.script.now) (left c.read_script.new.script) (failed c.args.script.now) (failed c.read_script.new.script))
    (files_change (told c.args.files.now) (told c.read_script.new.files) (lost c.args.files.now) (lost c.read_script.new.files) (misses c.args.files.now) (misses c.read_script.new.files) (longs c.args.files.now) (longs c.read_script.new.files))
    (sink_change (written c.args.out.now) (written c.read_script.new.out) (refused c.args.out.now) (refused c.read_script.new.out))
    tt c.end_of.result refl (c.in-Ok.ensures.longs known is) c.in-Ok.ensures.causes c.end_of.ensures

pub returns-clause-longs : goal.returns-clause-longs
returns-clause-longs g c = λ known is.
    let told = g.F.Files.told in
    let lost = g.F.Files.faults in
    let misses = g.F.Files.misses in
    let longs = g.F.Files.longs in
    let left = g.I.Source.left in
    let failed = g.I.Source.faults in
    let written = g.O.Sink.written in
    let refused = g.O.Sink.faults in
    let document = c.args.document in
    let s = start (g.D.Document.painter document) (record { text = g.D.Lines.lines document; spans = g.D.Document.shown document }) in
    let none : Harm = record { refused = false; met_long = false } in
    counted_over (Unit {0}) (g.D.Document.library document known) s none c.read_script.new.commands.harm
    (source_change (left c.args.script.now) (left c.read_script.new.script) (failed c.args.script.now) (failed c.read_script.new.script))
    (files_change (told c.args.files.now) (told c.read_script.new.files) (lost c.args.files.now) (lost c.read_script.new.files) (misses c.args.files.now) (misses c.read_script.new.files) (longs c.args.files.now) (longs c.read_script.new.files))
    (sink_change (written c.args.out.now) (written c.read_script.new.out) (refused c.args.out.now) (refused c.read_script.new.out))
    c.in-Err.end refl (c.in-Err.ensures.longs known is) c.in-Err.ensures.causes

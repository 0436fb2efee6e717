use Rattle.syn_reader.proofs.SoundRuns.{kept_in_line, ended_sound}
use Rattle.syn_reader.proofs.files.end_include.Goals as goal

pub returns-clause-sound : goal.returns-clause-sound
returns-clause-sound c =
    kept_in_line c.args.asker.file.now c.args.asker.line c.end_include-done.result c.in_line.result _ _ _ c.in_line.ensures c.end_include-done.ensures
    (λ e. ended_sound c.args.progress.now.reading c.end_include-done.new.self c.args.numbers.number c.args.numbers.around c.args.cluster.now e c.requires.sound)

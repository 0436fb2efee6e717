use Rattle.syn_reader.proofs.SoundRuns.{kept_in_line, begun_sound}
use Rattle.syn_reader.proofs.files.begin_include.Goals as goal

pub returns-clause-sound : goal.returns-clause-sound
returns-clause-sound c =
    kept_in_line c.args.asker.file.now c.args.asker.line c.begin_include-done.result c.in_line.result _ _ _ c.in_line.ensures c.begin_include-done.ensures
    (λ e. begun_sound c.args.progress.now c.begin_include-done.new.self e c.requires.sound)

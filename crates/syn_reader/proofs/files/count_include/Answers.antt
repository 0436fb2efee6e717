use Rattle.syn_reader.proofs.SoundRuns.{kept_in_line, counted_sound}
use Rattle.syn_reader.proofs.files.count_include.Goals as goal

pub returns-clause-sound : goal.returns-clause-sound
returns-clause-sound c =
    kept_in_line c.args.asker.file.now c.args.asker.line c.count_include-done.result c.in_line.result _ _ _ c.in_line.ensures c.count_include-done.ensures
    (λ e. counted_sound c.args.progress.now c.count_include-done.new.self e c.requires.sound)

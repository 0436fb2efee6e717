use Rattle.syn_reader.proofs.SoundRuns.{kept_in_line, named_sound}
use Rattle.syn_reader.proofs.files.name_cluster.Goals as goal

pub returns-clause-sound : goal.returns-clause-sound
returns-clause-sound c =
    kept_in_line c.args.asker.file.now c.args.asker.line c.name_cluster-done.result c.in_line.result _ _ _ c.in_line.ensures c.name_cluster-done.ensures.named
    (λ e. named_sound c.args.progress.now c.name_cluster-done.new.self c.args.cluster.now e c.requires.sound)

use Rattle.syn_reader.proofs.SoundRuns.{kept_in_line, effect_sound}
use Rattle.syn_reader.proofs.files.do_effect.Goals as goal

pub returns-clause-sound : goal.returns-clause-sound
returns-clause-sound c =
    kept_in_line c.args.asker.file.now c.args.asker.line c.carry_out-done.result c.in_line.result _ _ _ c.in_line.ensures c.carry_out-done.ensures
    (λ e. effect_sound c.args.options.now.assume_fromstart c.args.progress.now.reading c.carry_out-done.new.self c.args.what e c.requires.sound)

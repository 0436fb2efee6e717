-- What a call is given, before and after it.
use Rattle.std.specs.Prelude.{◌≡◌}
pub use Rattle.edit_session.specs.Ends.{FilesChange, files_between, files_change, sink_between, sink_change, source_between, source_change}
pub use Rattle.edit_session.specs.Steps.{StepsChange, steps_change}

-- no file was asked for: all is as it was
pub record AreUnasked (files : FilesChange) : Type 0 where
  pub told : files.told_after ≡ files.told
  pub faults : files.faults_after ≡ files.faults
  pub misses : files.misses_after ≡ files.misses
  pub longs : files.longs_after ≡ files.longs

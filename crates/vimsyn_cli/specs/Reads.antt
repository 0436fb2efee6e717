-- What a step of a run comes to that reads files, and what one that paints besides.
use Rattle.std.specs.Prelude.{◌≡◌, ℕ, ◌+◌, ◌≤◌, List, IfSome, Result}
use Rattle.syn_base.specs.Outside.{FileMap}
use Rattle.vimsyn_cli.specs.declared.fault.Fault.{Fault}
use Rattle.vimsyn_cli.specs.declared.fault.Stop.{Stop}
use Rattle.vimsyn_cli.specs.Changes.{FilesChange, StepsChange}
use Rattle.vimsyn_cli.specs.Plans.{FollowsFiles, IfFault, RaisesItsCount, is_missing, is_too_long, is_unread}

-- A step read files. It has what is expected of it by what they tell, the lines for those that it asks for and that can't be
-- read, and the faults that it can have whatever they tell.
pub record Reads
    {A : Type 0} (expected : FileMap → Result A Fault) (IsUnread : FileMap → List ℕ → Type 0) (IsOwn : Fault → Type 0)
    (files : FilesChange) (result : Result A Stop) : Type 0 where
  -- the files tell what they told
  pub kept : files.told_after ≡ files.told
  -- where they tell their bytes it comes to that, or a file couldn't be read, and the line is one for it
  pub planned : FollowsFiles files.told expected IsUnread result
  -- a fault is one of its own
  pub told : IfFault result IsOwn
  -- a count rose where the fault is its cause, and else it is as it was
  pub faults : RaisesItsCount is_unread result files.faults files.faults_after
  pub misses : RaisesItsCount is_missing result files.misses files.misses_after
  pub longs : RaisesItsCount is_too_long result files.longs files.longs_after

-- A step painted what it read: at most so many lines, where the files tell them.
pub record Paints
    {A : Type 0} (expected : FileMap → Result A Fault) (IsUnread : FileMap → List ℕ → Type 0) (IsOwn : Fault → Type 0)
    (lines : FileMap → ℕ) (files : FilesChange) (count : StepsChange) (result : Result A Stop) : Type 0 where
  pub reads : Reads expected IsUnread IsOwn files result
  pub steps : IfSome files.told (λ known. count.after ≤ count.before + lines known)

use Rattle.paint_reuse.specs.Work.{AreUntouched}
use Rattle.state_cache.specs.Edits.{change_by, old_by}
use Rattle.state_cache.proofs.edit.Edit.clear_until.Given as goal

-- the lines so far looked at nothing of the change
abbrev pub invariant-loop-j : goal.invariant-loop-j
invariant-loop-j l = AreUntouched (change_by l.self) (old_by l.self) l.from l.j

-- The notes that stand, and one more.
use Rattle.std.specs.Prelude.{◌≡◌, ℕ, [], ◌∷◌, ◌++◌, Result, Ok}
use Rattle.std.specs.List.{All}
use Rattle.paint_rules.specs.Line.{Refusal}
use Rattle.paint_rules.specs.States.{StateFits, next_line}
use Rattle.paint_reuse.specs.Kept.{KeptNote}
use Rattle.state_cache.specs.Notes.{NoteFits}
use Rattle.state_cache.specs.declared.walk.Walk.{Walk}
use Rattle.state_stack.specs.TopFirst.{top_first}

-- all states belong to so many items
pub record Stands (n : ℕ) (walk : Walk) : Type 0 where
  pub notes : All (NoteFits n) walk.notes.0
  pub state : StateFits n (top_first walk.state)

-- one more line stands, and this is its note
pub record IsNext (expected : Result KeptNote Refusal) (before after : Walk) : Type 0 where
  pub note : KeptNote
  pub noted : expected ≡ Ok note
  pub notes : after.notes.0 ≡ before.notes.0 ++ note ∷ []
  pub state : top_first after.state ≡ next_line note.after

-- A replacement of lines: which lines of the changed text are new, and what the others were.
use Rattle.std.specs.Prelude.{ℕ, ◌+◌, ◌-◌, nat_lt, Option, Some, None, if◌then◌else◌}
use Rattle.paint_reuse.specs.declared.change.Change.{Change}
pub use Rattle.chunk_list.specs.Replaced.{replaced}

-- the line of the old text that line k of the changed text was; a new line was none
abbrev pub old_line : Change → ℕ → Option ℕ
old_line change k =
    if nat_lt k change.a then Some k
    else (if nat_lt k (change.a + change.count) then None
    else Some (k - (change.a + change.count) + change.b))

-- Columns of one line.
use Rattle.std.specs.Prelude.{◌<◌, ◌≤◌, ℕ, pos, ◌+ℤ◌, Bool, nat_eq, ◌||◌, Some, None}
use Rattle.syntax_set.specs.declared.item.Pattern.{Pattern}
use Rattle.paint_rules.specs.Offsets.{within_line}
use Rattle.item_pick.specs.declared.columns.Columns.{Columns}

-- whether a match from a column can have its item start at another one of the same line, by the
-- line's length
abbrev pub may_start_at : Pattern → ℕ → ℕ → ℕ → Bool
may_start_at pattern last at from =
    pattern.tree.moves_start || elim pattern.ms [
      | None ↦ nat_eq from at
      | Some o ↦ o.from_end || nat_eq (within_line last (pos from +ℤ o.by)) at
    ]

abbrev pub Holds : Columns → ℕ → Type 0
Holds columns c = (columns.first ≤ c) × (c < columns.end)

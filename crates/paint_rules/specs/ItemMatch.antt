-- The match of an item at a place (Vim's help, :syn-pattern-offset and :syn-lc).
use Rattle.std.specs.Prelude.{ℕ, zero, suc, pos, ◌-◌, Bool, true, false, ◌||◌, List, [], ◌∷◌, Option, Some, None, length}
use Rattle.syn_base.specs.declared.places.Place.{Place}
use Rattle.syn_base.specs.Looked.{one_line}
use Rattle.match_rules.specs.Ways.{Text, is_same_place}
use Rattle.match_rules.specs.Ways.{line_at}
use Rattle.syn_base.specs.declared.places.ItemId.{ItemId}
use Rattle.syntax_set.specs.declared.item.Pattern.{Pattern}
use Rattle.paint_rules.specs.declared.Which.TheVariants.{Ms}
use Rattle.paint_rules.specs.Painted.{Painted, done, looks_at, ◌>>=◌, first_found}
use Rattle.paint_rules.specs.Rules.{Rules, Matched, Cause, attempted, no_externals, place_at}
use Rattle.paint_rules.specs.Offsets.{offset_place, moved_in_line}

-- so many columns from one on
abbrev pub columns : ℕ → ℕ → List ℕ
columns c zero = []
columns c (suc n) = c ∷ columns (suc c) n

-- the columns from one to the line's end, which is one of them
abbrev pub columns_from : ℕ → ℕ → List ℕ
columns_from first last = columns first (suc last - first)

-- whether a match from a column can have its item start at a place: known at once where it counts from the match's start
abbrev pub may_start : Text → Pattern → Place → Place → Bool
may_start t pattern p from =
    pattern.tree.moves_start || elim pattern.ms [
      | None ↦ is_same_place from p
      | Some o ↦ o.from_end || is_same_place (moved_in_line t from o.by) p
    ]

-- whether this match has its item start there
abbrev pub starts_at : Text → Pattern → Place → Option Matched → Bool
starts_at t pattern p None = false
starts_at t pattern p (Some m) = is_same_place (offset_place t m pattern Ms) p

-- a match looks besides at the line where it ends
abbrev pub looks_at_end : Option Matched → Painted Cause (Option Matched)
looks_at_end None = done None
looks_at_end (Some m) = do
  _ ← looks_at (one_line (pos m.to.line))
  done (Some m)

-- an attempt from a column, whose match counts if its item start is the place
abbrev pub tried_to_start : Rules → Text → ItemId → Pattern → Place → ℕ → Painted Cause (Option Matched)
tried_to_start r t i pattern p c = do
  m ← attempted r t i no_externals pattern (place_at p.line c)
  elim (starts_at t pattern p m) [ true ↦ looks_at_end m | false ↦ done None ]

-- the match from a column, if its item start is the place
abbrev pub match_from : Rules → Text → ItemId → Pattern → Place → ℕ → Painted Cause (Option Matched)
match_from r t i pattern p c =
    elim (may_start t pattern p (place_at p.line c)) [ true ↦ tried_to_start r t i pattern p c | false ↦ done None ]

-- the match of an item at a place: from the first column that gives one, where the last start or close in the line is `floor`
abbrev pub item_match : Rules → Text → ItemId → Pattern → Place → ℕ → Painted Cause (Option Matched)
item_match r t i pattern p floor =
    first_found (match_from r t i pattern p) (columns_from (floor - pattern.lc) (length (line_at t p.line)))

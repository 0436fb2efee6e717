-- Lines that were looked at. The hull of some lines is the range from the least to the greatest; a hull
-- of looked lines looks at a number where one of its parts does.
use Rattle.std.specs.Prelude.{ℤ, ◌+ℤ◌, int_lt, true, false, ◌||◌, if◌then◌else◌, FitsSigned}
use Rattle.std.specs.Int.{w64}
use Rattle.syn_base.specs.declared.looked.Looked.{Looked}

-- one line, and not its number
abbrev pub one_line : ℤ → Looked
one_line l = record { low = l; high = l; numbered = false }

-- the same lines, and a line's number
abbrev pub numbered_too : Looked → Looked
numbered_too a = record a { numbered = true }

abbrev pub lesser : ℤ → ℤ → ℤ
lesser a b = if int_lt b a then b else a

abbrev pub greater : ℤ → ℤ → ℤ
greater a b = if int_lt a b then b else a

-- the hull of two ranges
abbrev pub hull_of : Looked → Looked → Looked
hull_of a b = record {
  low = lesser a.low b.low;
  high = greater a.high b.high;
  numbered = a.numbered || b.numbered;
}

-- a range some lines further on, or back
abbrev pub moved_by : Looked → ℤ → Looked
moved_by a by = record a { low = a.low +ℤ by; high = a.high +ℤ by }

-- neither end leaves the numbers of 64 bits
abbrev pub CanMove : Looked → ℤ → Type 0
CanMove a by = FitsSigned w64 (a.low +ℤ by) × FitsSigned w64 (a.high +ℤ by)

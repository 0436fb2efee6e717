-- Where an offset leads (Vim's help, :syn-pattern-offset).
use Rattle.std.specs.Prelude.{ℕ, ℤ, pos, negsuc, ◌+ℤ◌, min, true, false, Option, Some, None, length}
use Rattle.syn_base.specs.declared.places.Place.{Place}
use Rattle.match_rules.specs.Ways.{Text, is_after}
use Rattle.match_rules.specs.Ways.{line_at}
use Rattle.syntax_set.specs.declared.item.Offset.{Offset}
use Rattle.syntax_set.specs.declared.item.Pattern.{Pattern}
use Rattle.paint_rules.specs.declared.Which.{Which}
use Rattle.paint_rules.specs.declared.Which.TheVariants.{Ms, Me, Hs, He, Rs, Re}
use Rattle.paint_rules.specs.Rules.{Matched}

-- a column that stops at both ends of a line
abbrev pub within_line : ℕ → ℤ → ℕ
within_line most (pos n) = min n most
within_line most (negsuc n) = 0

-- the place so many columns on, in the same line
abbrev pub moved_in_line : Text → Place → ℤ → Place
moved_in_line t p by = record p { col = within_line (length (line_at t p.line)) (pos p.col +ℤ by) }

-- the place that an offset names, or the one where none is given
abbrev pub offset_from : Text → Matched → Option Offset → ℤ → ℤ → Place → Place
offset_from t m None from_start from_end absent = absent
offset_from t m (Some o) from_start from_end absent =
    elim o.from_end [ true ↦ moved_in_line t m.to (o.by +ℤ from_end) | false ↦ moved_in_line t m.from (o.by +ℤ from_start) ]

-- a first character counts from the match's own first and last ones; an end, which is excluded, from one past each
abbrev pub offset_place : Text → Matched → Pattern → Which → Place
offset_place t m p Ms = offset_from t m p.ms (pos 0) (negsuc 0) m.from
offset_place t m p Hs = offset_from t m p.hs (pos 0) (negsuc 0) m.from
offset_place t m p Me = offset_from t m p.me (pos 1) (pos 0) m.to
offset_place t m p He = offset_from t m p.he (pos 1) (pos 0) m.to
offset_place t m p Rs = offset_from t m p.rs (pos 0) (pos 0) m.to
offset_place t m p Re = offset_from t m p.re (pos 0) (pos 0) m.from

-- the later, and the earlier, of two places
abbrev pub later_place : Place → Place → Place
later_place p q = elim (is_after p q) [ true ↦ p | false ↦ q ]

abbrev pub earlier_place : Place → Place → Place
earlier_place p q = elim (is_after p q) [ true ↦ q | false ↦ p ]

-- Changes of case in a string (Vim's help, sub-replace-special): `\u` and `\l` once, `\U` and `\L` up to `\E`.
use Rattle.std.specs.Prelude.{ℕ, ◌+◌, ◌-◌, nat_le, ◌&&◌, not, is_some, Bool, List, [], ◌∷◌, Option, Some, None, if◌then◌else◌}
use Rattle.ex_substitute.specs.declared.string.Case.{Case}
use Rattle.ex_substitute.specs.declared.string.Case.TheVariants.{Upper, Lower}
use Rattle.ex_substitute.specs.declared.string.Piece.{Piece}
use Rattle.ex_substitute.specs.declared.string.Piece.TheVariants.{Once, Lasting, Plain}
use Rattle.ex_substitute.specs.declared.casing.Casing.{Casing}
use Rattle.ex_substitute.specs.Glyphs.{Glyph, sign, line_break}

-- letters of ASCII alone change
abbrev pub in_case : Case → ℕ → ℕ
in_case Upper c = if nat_le 97 c && nat_le c 122 then c - 32 else c
in_case Lower c = if nat_le 65 c && nat_le c 90 then c + 32 else c

abbrev pub changed_by : Option Case → ℕ → ℕ
changed_by None c = c
changed_by (Some case) c = in_case case c

-- the change of the next character: the one-time one, in place of the lasting one
abbrev pub next_change : Casing → Option Case
next_change casing = elim casing.once [ None ↦ casing.lasting | Some case ↦ Some case ]

abbrev pub no_change : Casing
no_change = record { once = None; lasting = None }

-- whether nothing changes
abbrev pub changes_nothing : Casing → Bool
changes_nothing casing = not (is_some casing.once) && not (is_some casing.lasting)

-- the one-time change is over with the next character
abbrev pub used : Casing → Casing
used casing = record casing { once = None }

-- a run as it is put; a break neither changes nor uses a change
abbrev pub cased : Casing → List Glyph → List Glyph
cased casing [] = []
cased casing (sign c ∷ run) = sign (changed_by (next_change casing) c) ∷ cased (used casing) run
cased casing (line_break ∷ run) = line_break ∷ cased casing run

abbrev pub casing_after : Casing → List Glyph → Casing
casing_after casing [] = casing
casing_after casing (sign c ∷ run) = casing_after (used casing) run
casing_after casing (line_break ∷ run) = casing_after casing run

-- what a piece asks for; one that isn't a change asks for nothing
abbrev pub asked_by : Piece → Casing → Casing
asked_by (Once case) casing = record casing { once = Some case }
asked_by (Lasting case) casing = record casing { lasting = Some case }
asked_by Plain casing = record casing { lasting = None }
asked_by _ casing = casing

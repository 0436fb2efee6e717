-- Where a pattern ends (Vim's help, :syn-pattern): at the next character that is equal to the one before it, neither behind a
-- backslash nor in a collection. Which brackets open a collection goes by the level of magic; a collection may close anywhere
-- in the line.
use Rattle.std.specs.Prelude.{ℕ, ◌-◌, nat_eq, nat_le, not, ◌&&◌, ◌||◌, List, [], ◌∷◌, ◌++◌, Option, Some, None, Bool, true, false, if◌then◌else◌}
use Rattle.pattern_items.specs.declared.item.Level.{Level}
use Rattle.pattern_items.specs.declared.item.Level.TheVariants.{VeryNo, No, Usual, Very}
use Rattle.pattern_items.specs.Collection.{collection_end}
use Rattle.word_reader.specs.declared.delimited.Next.{Next}
use Rattle.word_reader.specs.declared.delimited.Next.TheVariants.{Free, Escaped, ClassLetter, Percent, Mark, Inside}
use Rattle.word_reader.specs.declared.delimited.Scan.{Scan}
use Rattle.text_scan.specs.Characters.{is_blank, is_digit, is_letter}

abbrev pub can_delimit : ℕ → Bool
can_delimit c = not (is_blank c || is_letter c || is_digit c || nat_eq c 92)

abbrev pub is_very : Level → Bool
is_very Very = true
is_very _ = false

-- at the lower levels a collection is opened by a bracket behind a backslash
abbrev pub opens_escaped : Level → Bool
opens_escaped VeryNo = true
opens_escaped No = true
opens_escaped Usual = false
opens_escaped Very = false

abbrev pub level_after : Level → ℕ → Level
level_after level c =
    if nat_eq c 118 then Very else if nat_eq c 109 then Usual else if nat_eq c 77 then No else if nat_eq c 86 then VeryNo else level

-- whether a bracket opens a collection: behind `\_` always, behind a percent sign that is an item never, nor as
-- the name of a mark, and else by the level
abbrev pub bracket_opens : Level → Next → Bool
bracket_opens level Escaped = opens_escaped level
bracket_opens level ClassLetter = true
bracket_opens level Percent = false
bracket_opens level Mark = false
bracket_opens level (Inside n) = false
bracket_opens level Free = not (opens_escaped level)

abbrev pub opens : Scan → ℕ → Bool
opens scan c = nat_eq c 91 && bracket_opens scan.level scan.next

-- the rest of the collection that a bracket opens, if one closes it
abbrev pub inside : Option ℕ → Next
inside None = Free
inside (Some n) = Inside n

abbrev pub behind_inside : ℕ → Next
behind_inside n = if nat_le n 1 then Free else Inside (n - 1)

-- how the character behind this one is read, where nothing before it changes what it is
abbrev pub plainly_next : Level → ℕ → Next
plainly_next level c = if nat_eq c 92 then Escaped else if nat_eq c 37 && is_very level then Percent else Free

-- behind a percent sign that is an item a quote begins a mark, also behind a sign of comparison
abbrev pub behind_percent : Level → ℕ → Next
behind_percent level c = if nat_eq c 39 then Mark else if nat_eq c 60 || nat_eq c 62 then Percent else plainly_next level c

-- behind a backslash
abbrev pub behind_backslash : Level → ℕ → Next
behind_backslash level c = if nat_eq c 95 then ClassLetter else if nat_eq c 37 && not (is_very level) then Percent else Free

-- how the character behind this one is read, where this one opens no collection
abbrev pub next_by : Level → Next → ℕ → Next
next_by level Escaped c = behind_backslash level c
next_by level Percent c = behind_percent level c
next_by level (Inside n) c = behind_inside n
next_by level next c = plainly_next level c

abbrev pub level_by : Level → Next → ℕ → Level
level_by level Escaped c = level_after level c
level_by level next c = level

abbrev pub plain_next : Scan → ℕ → Scan
plain_next scan c = record { level = level_by scan.level scan.next c; next = next_by scan.level scan.next c }

abbrev pub open_next : Scan → List ℕ → Scan
open_next scan text = record { level = scan.level; next = inside (collection_end text 0) }

-- the scan behind one character more; the text begins with it
abbrev pub scan_next : Scan → ℕ → List ℕ → Scan
scan_next scan c text = if opens scan c then open_next scan text else plain_next scan c

abbrev pub may_close : Next → Bool
may_close Escaped = false
may_close (Inside n) = false
may_close _ = true

abbrev pub first_scan : Scan
first_scan = record { level = Usual; next = Free }

-- the characters up to the delimiter, behind those so far, and what is left behind it
abbrev pub delimited_after : ℕ → Scan → List ℕ → List ℕ → Option (List ℕ × List ℕ)
delimited_after d scan so_far [] = None
delimited_after d scan so_far (c ∷ cs) =
    if may_close scan.next && nat_eq c d then Some (so_far, cs) else delimited_after d (scan_next scan c (c ∷ cs)) (so_far ++ c ∷ []) cs

abbrev pub delimited : ℕ → List ℕ → Option (List ℕ × List ℕ)
delimited d text = delimited_after d first_scan [] text

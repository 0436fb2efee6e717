-- Small lists of entries, and the ways that they stand for.
use Rattle.std.proofs.Common.{◌≡◌, ℕ, List, [], ◌∷◌, refl}
use Rattle.std.specs.Prelude.{Some, None, replicate}
use Rattle.match_rules.specs.Ways.{capture_of, place}
use Rattle.pattern_match.specs.Entries.{entries_from}
use Rattle.pattern_match.specs.Ways.{with_notes, with_earlier, with_last}
use Rattle.pattern_match.specs.declared.ways.Note.{Note}
use Rattle.pattern_match.specs.declared.ways.Note.TheVariants.{Captured, Stop}
use Rattle.pattern_match.specs.declared.ways.Noted.{Noted}

-- a number, and that of the entry behind it
abbrev Entry : Type 0
Entry = ℕ × ℕ

abbrev behind : Entry → ℕ
behind e = e.1

-- the third and the second entry share the first
abbrev three : List Entry
three = (30, 1) ∷ (20, 1) ∷ (10, 0) ∷ []

pub from_the_third : entries_from behind three 3 ≡ (30, 1) ∷ (10, 0) ∷ []
from_the_third = refl

pub from_the_second : entries_from behind three 2 ≡ (20, 1) ∷ (10, 0) ∷ []
from_the_second = refl

pub from_none : entries_from behind three 0 ≡ []
from_none = refl

abbrev noted : Note → Noted
noted note = record { note = note; before = 0; last = [] }

-- the last note of a group counts
abbrev twice : List Noted
twice = noted (Captured 2 (place 0 5) (place 0 7)) ∷ noted (Stop (place 0 6)) ∷ noted (Captured 2 (place 0 1) (place 0 3)) ∷ []

pub last_note_counts : capture_of (with_notes twice).captures 2 ≡ Some (place 0 5, place 0 7)
last_note_counts = refl

pub other_group_has_none : capture_of (with_notes twice).captures 1 ≡ None
other_group_has_none = refl

pub externals_are_apart : capture_of (with_notes twice).externals 2 ≡ None
externals_are_apart = refl

pub stop_is_noted : (with_notes twice).stop ≡ Some (place 0 6)
stop_is_noted = refl

-- a note that came before those of a way leaves what they say
pub earlier_note_is_covered : capture_of (with_earlier (with_notes twice) (Captured 2 (place 0 8) (place 0 9))).captures 2 ≡ Some (place 0 5, place 0 7)
earlier_note_is_covered = refl

pub earlier_note_fills : capture_of (with_earlier (with_notes twice) (Captured 1 (place 0 8) (place 0 9))).captures 1 ≡ Some (place 0 8, place 0 9)
earlier_note_fills = refl

-- a note is the last one of its group alone
pub last_of_its_group : with_last (replicate 9 4) (Captured 2 (place 0 1) (place 0 3)) 7 ≡ 4 ∷ 7 ∷ 4 ∷ 4 ∷ 4 ∷ 4 ∷ 4 ∷ 4 ∷ 4 ∷ []
last_of_its_group = refl

-- Which entry a number has.
use Rattle.std.specs.Prelude.{◌≡◌, ◌⊎◌, ◌/◌, ◌%◌, ℕ, List, Some, slice_get}
use Rattle.std.specs.Int.{bit_at}
use Rattle.slots.specs.declared.grid.Grid.{Grid}
use Rattle.slots.specs.declared.marks.Marks.{Marks}
use Rattle.slots.specs.declared.slots.Slots.{Slots}
use Rattle.slots.specs.declared.table.Table.{Table}

-- an entry of a table
abbrev pub IsAt : {E : Type 0} → Table E → ℕ → E → Type 0
IsAt table number entry = slice_get table.entries.items number ≡ Some (Some entry)

-- an entry stands at a place of the list, and the number has that place
pub record Stands {E : Type 0} (slots : Slots E) (number : ℕ) (entry : E) (place : ℕ) : Type 0 where
  pub noted : slice_get slots.places.items number ≡ Some place
  pub slot : slice_get slots.list.items place ≡ Some (record { number = number; entry = entry })

abbrev pub Has : {E : Type 0} → Slots E → ℕ → E → Type 0
Has slots number entry = (place : ℕ) × Stands slots number entry place

-- some entry does
abbrev pub IsFound : {E : Type 0} → Slots E → ℕ → ℕ → Type 0
IsFound {E} slots number place = (entry : E) × Stands slots number entry place

-- an entry of a grid
abbrev pub IsIn : {E : Type 0} → Grid E → ℕ → ℕ → E → Type 0
IsIn {E} grid row number entry =
    (table : Table E) × ((slice_get grid.rows.items row ≡ Some table) × IsAt table number entry)

-- each number has the entry that it had, or none, or the one that was put
abbrev pub IsPut : {E : Type 0} → (ℕ → E → Type 0) → (ℕ → E → Type 0) → ℕ → E → Type 0
IsPut {E} old new number entry =
    (k : ℕ) (e : E) → new k e → old k e ⊎ ((k ≡ number) × (e ≡ entry))

-- the same of two numbers
abbrev pub IsPutIn : {E : Type 0} → (ℕ → ℕ → E → Type 0) → (ℕ → ℕ → E → Type 0) → ℕ → ℕ → E → Type 0
IsPutIn {E} old new row number entry =
    (j k : ℕ) (e : E) → new j k e → old j k e ⊎ ((j ≡ row) × ((k ≡ number) × (e ≡ entry)))

-- each number has the place that it had, or this one
abbrev pub IsNoted : List ℕ → List ℕ → ℕ → Type 0
IsNoted old new place =
    (k p : ℕ) → slice_get new k ≡ Some p → (slice_get old k ≡ Some p) ⊎ (p ≡ place)

-- the bit of a number is set
abbrev pub IsMarked : Marks → ℕ → Type 0
IsMarked marks number =
    (word : ℕ) × ((slice_get marks.words.items (number / 64) ≡ Some word) × (bit_at word (number % 64) ≡ 1))

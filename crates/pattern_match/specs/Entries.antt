-- Lists that share their tails, kept as entries of one list. Entries are numbered from 1, and each names
-- one that is older, or 0 for none. Here the newest entry is first.
use Rattle.std.specs.Prelude.{ℕ, suc, ◌≤◌, true, false, nat_eq, List, [], ◌∷◌, length}

-- the entries from one on
abbrev pub entries_from : {X : Type 0} → (X → ℕ) → List X → ℕ → List X
entries_from behind [] number = []
entries_from behind (entry ∷ older) number =
    elim (nat_eq number (suc (length older))) [
      | true ↦ entry ∷ entries_from behind older (behind entry)
      | false ↦ entries_from behind older number
    ]

-- each entry names an older one, or none
abbrev pub AreLinked : {X : Type 0} → (X → ℕ) → List X → Type 0
AreLinked behind [] = Unit {0}
AreLinked behind (entry ∷ older) = (behind entry ≤ length older) × AreLinked behind older

-- What a search for a closing bracket in vain tells of the rest of a line.
use Rattle.std.specs.Prelude.{ℕ, List}
use Rattle.pattern_items.specs.Vain.{IsVain}

-- what is known of the one holds of the other
abbrev pub Keeps : List ℕ → List ℕ → Type 0
Keeps text rest = IsVain text → IsVain rest

-- Numbers of groups or clusters, each once, in the order in which they came.
use Rattle.std.specs.Prelude.{ℕ, Bool, not, List, [], ◌∷◌, ◌++◌, nat_eq, filter, fold, if◌then◌else◌}
use Rattle.std.specs.List.{list_any}

abbrev pub has_number : List ℕ → ℕ → Bool
has_number numbers number = list_any (nat_eq number) numbers

-- with one more, unless it is there
abbrev pub with_number : List ℕ → ℕ → List ℕ
with_number numbers number = if has_number numbers number then numbers else numbers ++ number ∷ []

-- with several more in turn
abbrev pub with_numbers : List ℕ → List ℕ → List ℕ
with_numbers numbers more = fold with_number numbers more

-- those that aren't among the others
abbrev pub without : List ℕ → List ℕ → List ℕ
without numbers others = with_numbers [] (filter (λ number. not (has_number others number)) numbers)

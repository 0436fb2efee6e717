-- How groups are kept: each name as first written, by what it is in lower case.
use Rattle.std.specs.Prelude.{◌≡◌, ◌≤◌, ℕ, List, [], ◌∷◌, length, map, String}
use Rattle.std.specs.declared.alloc.Global.{Global}
use Rattle.std.specs.String.{string_bytes}
use Rattle.std.specs.Str.{str_to_ascii_lowercase}

abbrev pub Entry : Type 0
Entry = String Global × String Global

-- the names as first written
abbrev pub names_of : List Entry → List (List ℕ)
names_of entries = map (λ entry. string_bytes entry.1) entries

-- each name stands by what it is in lower case
abbrev pub IsByLowerCase : List Entry → Type 0
IsByLowerCase [] = Unit {0}
IsByLowerCase (entry ∷ entries) =
    (string_bytes entry.0 ≡ str_to_ascii_lowercase (string_bytes entry.1)) × IsByLowerCase entries

pub record HoldsGroups (entries : List Entry) : Type 0 where
  pub by_lower_case : IsByLowerCase entries
  pub few : length entries ≤ 20000

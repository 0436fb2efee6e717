-- Parts of a word, which stand between separators.
use Rattle.std.specs.Prelude.{ℕ, nat_eq, ◌&&◌, ◌||◌, List, [], ◌∷◌, Bool, true, false}

-- Parts of a word stand between separators. Whether this one stands at the front:
abbrev pub part_here : ℕ → List ℕ → List ℕ → Bool
part_here separator [] [] = true
part_here separator [] (c ∷ cs) = nat_eq c separator
part_here separator (w ∷ ws) [] = false
part_here separator (w ∷ ws) (c ∷ cs) = nat_eq c w && part_here separator ws cs

-- whether it stands anywhere; the first says whether a part begins here
abbrev pub part_from : Bool → ℕ → List ℕ → List ℕ → Bool
part_from begins_here separator part [] = begins_here && part_here separator part []
part_from begins_here separator part (c ∷ cs) = (begins_here && part_here separator part (c ∷ cs)) || part_from (nat_eq c separator) separator part cs

abbrev pub has_part : ℕ → List ℕ → List ℕ → Bool
has_part separator part word = part_from true separator part word

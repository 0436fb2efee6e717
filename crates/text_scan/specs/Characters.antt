-- Blanks are space and tab; letters and digits are those of ASCII.
use Rattle.std.specs.Prelude.{ℕ, nat_eq, nat_le, ◌&&◌, ◌||◌, List, [], ◌∷◌, Bool, if◌then◌else◌}

abbrev pub space : ℕ
space = 32

abbrev pub tab : ℕ
tab = 9

abbrev pub is_blank : ℕ → Bool
is_blank c = nat_eq c space || nat_eq c tab

abbrev pub is_between : ℕ → ℕ → ℕ → Bool
is_between low high c = nat_le low c && nat_le c high

-- A to Z, a to z
abbrev pub is_letter : ℕ → Bool
is_letter c = is_between 65 90 c || is_between 97 122 c

-- 0 to 9
abbrev pub is_digit : ℕ → Bool
is_digit c = is_between 48 57 c

-- what follows the blanks at the front
abbrev pub past_blanks : List ℕ → List ℕ
past_blanks [] = []
past_blanks (c ∷ cs) = if is_blank c then past_blanks cs else c ∷ cs

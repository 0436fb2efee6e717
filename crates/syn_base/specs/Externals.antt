-- The nine texts that the start of a region hands to its end.
use Rattle.std.specs.Prelude.{ℕ, List, [], ◌∷◌, replicate}

-- nine texts: those that are kept, or empty ones where none are
unfoldable pub nine_texts : List (List ℕ) → List (List ℕ)
nine_texts [] = replicate 9 []
nine_texts (part ∷ parts) = part ∷ parts

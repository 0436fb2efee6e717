-- What follows so many characters.
use Rattle.std.proofs.Common.{◌≡◌, ℕ, ◌+◌, List, ◌∷◌, drop, ap, sym, ◌∙◌}
use Rattle.std.proofs.lemmas.List.{drop-drop}

-- what follows one character more
pub drop_further : (xs rest more : List ℕ) (n c : ℕ) → rest ≡ drop n xs → rest ≡ c ∷ more → more ≡ drop (n + 1) xs
drop_further xs rest more n c behind front = sym (ap (drop 1) front) ∙ (ap (drop 1) behind ∙ drop-drop 1 n xs)

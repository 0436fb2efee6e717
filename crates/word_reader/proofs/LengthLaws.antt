-- Words of other lengths are others.
use Rattle.std.proofs.Common.{◌≡◌, ℕ, suc, Bool, true, false, List, [], ◌∷◌, length, refl, ap}
use Rattle.std.proofs.Math.Dec.{eqb}
use Rattle.std.proofs.lemmas.Bool.{eqb-false, ne_eqb}
use Rattle.std.specs.Prelude.{◌&&◌}
use Rattle.word_reader.specs.Words.{alike, same}

pub other_length : (ignore : Bool) (text word : List ℕ) → eqb (length text) (length word) ≡ false → same ignore text word ≡ false
other_length ignore [] [] other = other
other_length ignore [] (d ∷ ds) other = refl
other_length ignore (c ∷ cs) [] other = refl
other_length ignore (c ∷ cs) (d ∷ ds) other = by_test (alike ignore c d) (other_length ignore cs ds shorter)
  where
    shorter : eqb (length cs) (length ds) ≡ false
    shorter = ne_eqb (length cs) (length ds) (λ e. eqb-false (length (c ∷ cs)) (length (d ∷ ds)) other (ap suc e))

    by_test : (b : Bool) → same ignore cs ds ≡ false → (b && same ignore cs ds) ≡ false
    by_test true behind = behind
    by_test false behind = refl

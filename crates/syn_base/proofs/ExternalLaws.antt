-- Each of nine texts is the kept one, or empty.
use Rattle.std.proofs.Common.{◌≡◌, ◌<◌, ℕ, List, [], ◌∷◌, length, replicate, slice_get, Some, None, refl, sym, ap, subst, ◌∙◌}
use Rattle.std.proofs.lemmas.List.{get_or-replicate}
use Rattle.std.proofs.lemmas.Option.{slice_get-get_or}
use Rattle.syn_base.specs.Externals.{nine_texts}

-- nine texts that are given are kept
pub kept_texts : (parts : List (List ℕ)) → length parts ≡ 9 → nine_texts parts ≡ parts
unfolding nine_texts
kept_texts [] h = absurd (cc)
kept_texts (part ∷ parts) h = refl

-- and they are nine
pub nine_kept : (parts : List (List ℕ)) → length parts ≡ 9 → length (nine_texts parts) ≡ 9
nine_kept parts h = ap length (kept_texts parts h) ∙ h

-- a text that is kept
pub kept_text : (parts : List (List ℕ)) (i : ℕ) (text : List ℕ) → slice_get parts i ≡ Some text → Some text ≡ slice_get (nine_texts parts) i
unfolding nine_texts
kept_text [] i text h = absurd (cc)
kept_text (part ∷ parts) i text h = sym h

-- one that isn't
pub absent_text : (parts : List (List ℕ)) (i : ℕ) → length (nine_texts parts) ≡ 9 → i < 9 → slice_get parts i ≡ None → Some [] ≡ slice_get (nine_texts parts) i
unfolding nine_texts
absent_text [] i nine within h =
    sym (slice_get-get_or (replicate 9 []) i [] within ∙ ap Some (get_or-replicate 9 i [] [] within))
absent_text (part ∷ parts) i nine within h =
    let present = slice_get-get_or (part ∷ parts) i [] (subst (λ n. i < n) (sym nine) within) in
    absurd (cc)

-- One line more.
use Rattle.std.proofs.Common.{◌≡◌, ◌∙◌, ℕ, zero, suc, List, [], ◌∷◌, ◌++◌, take, refl, ap, sym, append_assoc, slice_get, Some}
use Rattle.std.specs.Prelude.{encode_utf8_all}
use Rattle.text_buffer.specs.BytesOfText.{bytes_of}
use Rattle.text_buffer.specs.TextOfBytes.{line_break}

-- the lines up to one, and that one
take_here : {X : Type 0} (xs : List X) (i : ℕ) (x : X) → slice_get xs i ≡ Some x → take (suc i) xs ≡ take i xs ++ x ∷ []
take_here [] i x is = absurd cc
take_here {X} (y ∷ xs) zero x is = let e : y ≡ x = cc in ap (λ (z : X). z ∷ []) e
take_here {X} (y ∷ xs) (suc i) x is = ap (λ (l : List X). y ∷ l) (take_here xs i x is)

-- the bytes of some lines, and of one more
bytes_pushed : (lines : List (List ℕ)) (line : List ℕ) → bytes_of (lines ++ line ∷ []) ≡ bytes_of lines ++ bytes_of (line ∷ [])
bytes_pushed [] line = refl
bytes_pushed (first ∷ lines) line =
    ap (λ (l : List ℕ). encode_utf8_all first ++ line_break ∷ l) (bytes_pushed lines line)
    ∙ sym (append_assoc (encode_utf8_all first) (line_break ∷ bytes_of lines) (bytes_of (line ∷ [])))

pub written_further : (lines : List (List ℕ)) (i next : ℕ) (line bytes more : List ℕ) → next ≡ suc i → Some line ≡ slice_get lines i → bytes ≡ bytes_of (take i lines) → more ≡ bytes ++ bytes_of (line ∷ []) → more ≡ bytes_of (take next lines)
written_further lines i next line bytes more at is so_far written =
    written ∙ ap (λ (l : List ℕ). l ++ bytes_of (line ∷ [])) so_far ∙ sym (bytes_pushed (take i lines) line)
    ∙ ap bytes_of (sym (take_here lines i line (sym is))) ∙ ap (λ n. bytes_of (take n lines)) (sym at)

pub copied_further : (lines : List (List ℕ)) (i next : ℕ) (line : List ℕ) (copy more : List (List ℕ)) → next ≡ suc i → Some line ≡ slice_get lines i → copy ≡ take i lines → more ≡ copy ++ line ∷ [] → more ≡ take next lines
copied_further lines i next line copy more at is so_far copied =
    copied ∙ ap (λ (l : List (List ℕ)). l ++ line ∷ []) so_far ∙ sym (take_here lines i line (sym is)) ∙ ap (λ n. take n lines) (sym at)

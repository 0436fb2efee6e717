-- Lists from their last element on.
use Rattle.region_ends.proofs.Common.{◌≡◌, ◌∙◌, sym, ap, subst, arith, ℕ, ◌-◌, ◌+◌, ◌<◌, ◌≤◌, List, [], ◌∷◌, length, take, reverse, Some, get_or, slice_get, All, reverse-append, All-head, All-tail, get_or_from_slice_get, take_more, All-push}

pub all_reverse : {A : Type 0} (P : A → Type 0) (xs : List A) → All P xs → All P (reverse xs)
all_reverse P [] h = h
all_reverse P (x ∷ xs) h =
    subst (All P) (sym (reverse-append (x ∷ []) xs)) (All-push P (reverse xs) x (all_reverse P xs (All-tail P x xs h)) (All-head P x xs h))

pub last_first : {A : Type 0} (xs : List A) (n : ℕ) (x : A) → 0 < n → n ≤ length xs → Some x ≡ slice_get xs (n - 1) → reverse (take n xs) ≡ x ∷ reverse (take (n - 1) xs)
last_first xs n x h g e =
    let f : n ≡ (n - 1) + 1 = omega arith in
    let less : n - 1 < length xs = omega arith in
    ap (λ k. reverse (take k xs)) f
    ∙ (ap reverse (take_more xs (n - 1) x less)
    ∙ (reverse-append (take (n - 1) xs) (get_or xs (n - 1) x ∷ [])
    ∙ ap (λ y. y ∷ reverse (take (n - 1) xs)) (get_or_from_slice_get xs (n - 1) x x (sym e))))

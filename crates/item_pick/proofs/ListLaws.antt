-- Lists that are read from their end.
use Rattle.item_pick.proofs.Common.{◌≡◌, ◌∙◌, ap, arith, ℕ, suc, ◌+◌, ◌<◌, ◌≤◌, List, [], ◌∷◌, length, sym, get_or_from_slice_get, take, reverse, get_or, Some, slice_get, reverse-append, take_more}

pub one_more : {A : Type 0} (xs : List A) (k : ℕ) (d : A) → k < length xs → reverse (take (k + 1) xs) ≡ get_or xs k d ∷ reverse (take k xs)
one_more xs k d less = ap reverse (take_more xs k d less) ∙ reverse-append (take k xs) (get_or xs k d ∷ [])

pub last_first : {A : Type 0} (xs : List A) (n m : ℕ) (x : A) → n ≡ suc m → n ≤ length xs → Some x ≡ slice_get xs m → reverse (take n xs) ≡ x ∷ reverse (take m xs)
last_first {A = A} xs n m x h g e =
    let f : n ≡ m + 1 = omega arith in
    let less : m < length xs = omega arith in
    ap (λ k. reverse (take k xs)) f ∙ (ap reverse (take_more xs m x less) ∙ (reverse-append (take m xs) (get_or xs m x ∷ []) ∙ ap (λ y. y ∷ reverse (take m xs)) (get_or_from_slice_get xs m x x (sym e))))

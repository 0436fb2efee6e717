-- Lines that are copied and printed one by one.
use Rattle.std.proofs.Common.{◌≡◌, ℕ, zero, suc, ◌+◌, ◌-◌, ◌<◌, ◌≤◌, List, [], ◌∷◌, ◌++◌, take, drop, get_or, refl, ap, sym, ◌∙◌, append_assoc, arith}
use Rattle.std.specs.Prelude.{Some, slice_get, slice_range}
use Rattle.std.specs.List.{range_with_len}
use Rattle.syn_base.specs.declared.places.Span.{Span}
use Rattle.edit_session.specs.Painter.{Painter}
use Rattle.edit_session.specs.Session.{lines_text}

take_one_more : (xs : List (List ℕ)) (n : ℕ) (x : List ℕ) → Some x ≡ slice_get xs n → take (suc n) xs ≡ take n xs ++ x ∷ []
take_one_more [] n x is = absurd (cc)
take_one_more (y ∷ xs) zero x is = ap (λ z. z ∷ []) (cc)
take_one_more (y ∷ xs) (suc n) x is = ap (λ l. y ∷ l) (take_one_more xs n x is)

get_in_drop : (xs : List (List ℕ)) (a n : ℕ) → slice_get (drop a xs) n ≡ slice_get xs (a + n)
get_in_drop xs zero n = let same : n ≡ 0 + n = omega arith in ap (slice_get xs) same
get_in_drop [] (suc a) n = refl
get_in_drop (x ∷ xs) (suc a) n =
    let same : suc (a + n) ≡ suc a + n = omega arith in get_in_drop xs a n ∙ ap (slice_get (x ∷ xs)) same

-- one line more was copied
pub range_one_more : (xs : List (List ℕ)) (a n : ℕ) (x : List ℕ) → a ≤ n → Some x ≡ slice_get xs n → slice_range xs a (n + 1) ≡ slice_range xs a n ++ x ∷ []
range_one_more xs a n x ordered is =
    let count : n + 1 - a ≡ suc (n - a) = omega arith in
    let place : a + (n - a) ≡ n = omega arith in
    ap (λ k. take k (drop a xs)) count
    ∙ take_one_more (drop a xs) (n - a) x (is ∙ sym (get_in_drop xs a (n - a) ∙ ap (slice_get xs) place))

pub copied_further : (xs before lines more : List (List ℕ)) (a n : ℕ) (x : List ℕ) → a ≤ n → Some x ≡ slice_get xs n → lines ≡ before ++ slice_range xs a n → more ≡ lines ++ x ∷ [] → more ≡ before ++ slice_range xs a (n + 1)
copied_further xs before lines more a n x ordered is so_far pushed =
    pushed ∙ ap (λ l. l ++ x ∷ []) so_far ∙ append_assoc before (slice_range xs a n) (x ∷ []) ∙ ap (λ l. before ++ l) (sym (range_one_more xs a n x ordered is))

-- ---- printed lines

range_next : (n b : ℕ) → n < b → range_with_len n (b - n) ≡ n ∷ range_with_len (n + 1) (b - (n + 1))
range_next n b within =
    let count : b - n ≡ suc (b - (n + 1)) = omega arith in
    ap (range_with_len n) count

pub printed_in_range : (p : Painter) (spans : List (List Span)) (n next b : ℕ) (before out after : List ℕ) → n < b → next ≡ n + 1 → out ++ lines_text p spans (range_with_len n (b - n)) ≡ before → after ≡ out ++ p.line n (get_or spans n []) → after ++ lines_text p spans (range_with_len next (b - next)) ≡ before
printed_in_range p spans n next b before out after within follows so_far printed =
    ap (λ k. after ++ lines_text p spans (range_with_len k (b - k))) follows
    ∙ ap (λ o. o ++ lines_text p spans (range_with_len (n + 1) (b - (n + 1)))) printed
    ∙ append_assoc out _ _
    ∙ ap (λ r. out ++ lines_text p spans r) (sym (range_next n b within))
    ∙ so_far

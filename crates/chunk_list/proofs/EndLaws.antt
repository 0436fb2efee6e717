-- Where chunks begin and end, and the element at a place.
use Rattle.std.proofs.Common.{arith, sym, ap, ◌∙◌, ◌≡◌, ◌<◌, ◌≤◌, ◌+◌, ◌-◌, ℕ, zero, suc, List, [], ◌∷◌, ◌++◌, take, drop, length, refl, get_or, length-append, append_assoc}
use Rattle.std.specs.Prelude.{Some, slice_get, slice_index}
use Rattle.std.proofs.lemmas.Option.{slice_get_read}
use Rattle.chunk_list.specs.Flat.{Holds, ends_from, flat, start_in}
use Rattle.chunk_list.proofs.FlatLaws.{flat_more}

pub length-ends_from : {X : Type 0} (cs : List (List X)) (s : ℕ) → length (ends_from s cs) ≡ length cs
length-ends_from [] s = refl
length-ends_from (c ∷ cs) s = ap suc (length-ends_from cs (s + length c))

-- where chunk i ends
end_is : {X : Type 0} (cs : List (List X)) (s i : ℕ) → i < length cs → slice_index (ends_from s cs) i ≡ s + length (flat (take (suc i) cs))
end_is [] s i within = absurd (omega arith)
end_is (c ∷ cs) s zero within = omega (arith, length-append c [])
end_is (c ∷ cs) s (suc i) within = omega (arith, end_is cs (s + length c) i (omega arith), length-append c (flat (take (suc i) cs)))

-- where chunk i begins
pub start_is : {X : Type 0} (cs : List (List X)) (i : ℕ) → i ≤ length cs → start_in (ends_from 0 cs) i ≡ length (flat (take i cs))
start_is cs zero within = refl
start_is cs (suc i) within = let e = end_is cs 0 i (omega arith) in omega (arith, e)

-- the last chunk ends where the list does
pub last_end : {X : Type 0} (cs : List (List X)) (s n : ℕ) → length cs ≡ suc n → slice_index (ends_from s cs) n ≡ s + length (flat cs)
last_end [] s n count = absurd (omega arith)
last_end (c ∷ []) s zero count = omega (arith, length-append c [])
last_end (c ∷ []) s (suc n) count = absurd (omega arith)
last_end (c ∷ d ∷ cs) s zero count = absurd (omega arith)
last_end (c ∷ d ∷ cs) s (suc n) count = omega (arith, last_end (d ∷ cs) (s + length c) n (omega arith), length-append c (flat (d ∷ cs)))

-- an element of the first of two lists, and of the second one
get-left : {X : Type 0} (xs ys : List X) (i : ℕ) → i < length xs → slice_get (xs ++ ys) i ≡ slice_get xs i
get-left [] ys i within = absurd (omega arith)
get-left (x ∷ xs) ys zero within = refl
get-left (x ∷ xs) ys (suc i) within = get-left xs ys i (omega arith)

pub get-right : {X : Type 0} (xs ys : List X) (i j : ℕ) → i ≡ length xs + j → slice_get (xs ++ ys) i ≡ slice_get ys j
get-right [] ys i j e = let f : i ≡ j = omega arith in ap (slice_get ys) f
get-right (x ∷ xs) ys zero j e = absurd (omega arith)
get-right (x ∷ xs) ys (suc i) j e = get-right xs ys i j (omega arith)

-- the element at a place is that of its chunk
pub element_is : {X : Type 0} (cs : List (List X)) (i at within : ℕ) (c : List X) → slice_get cs i ≡ Some c → at ≡ length (flat (take i cs)) + within → within < length c → slice_get (flat cs) at ≡ slice_get c within
element_is [] i at within c is place inside = absurd cc
element_is {X} (x ∷ xs) zero at within c is place inside =
    let same : x ≡ c = cc in
    let e : at ≡ within = omega arith in
    let l : at < length x = omega (arith, ap length same) in
    get-left x (flat xs) at l ∙ ap (λ (y : List X). slice_get y at) same ∙ ap (slice_get c) e
element_is (x ∷ xs) (suc i) at within c is place inside =
    let far : at ≡ length x + (length (flat (take i xs)) + within) = omega (arith, length-append x (flat (take i xs))) in
    get-right x (flat xs) at (length (flat (take i xs)) + within) far
    ∙ element_is xs i (length (flat (take i xs)) + within) within c is refl inside

-- the chunk that holds a place, in numbers of the chunks
pub record Stand {X : Type 0} (cs : List (List X)) (at i : ℕ) : Type 0 where
  pub inside : i < length cs
  pub from : length (flat (take i cs)) ≤ at
  pub to : at < length (flat (take (suc i) cs))

pub stand_of : {X : Type 0} (cs : List (List X)) (ends : List ℕ) (at i : ℕ) → ends ≡ ends_from 0 cs → Holds ends at i → Stand cs at i
stand_of cs ends at i are holds =
    let count : length ends ≡ length cs = ap length are ∙ length-ends_from cs 0 in
    let within : i < length cs = omega (arith, holds.inside, count) in
    record {
      inside = within;
      from = omega (arith, holds.from, ap (λ (e : List ℕ). start_in e i) are, start_is cs i (omega arith));
      to = omega (arith, holds.to, ap (λ (e : List ℕ). slice_index e i) are, end_is cs 0 i within);
    }

-- how many elements there are
pub count_is : {X : Type 0} (cs : List (List X)) (ends : List ℕ) (n : ℕ) → ends ≡ ends_from 0 cs → length ends ≡ suc n → slice_index ends n ≡ length (flat cs)
count_is cs ends n are count =
    let e : length cs ≡ suc n = omega (arith, ap length are, length-ends_from cs 0) in
    omega (arith, ap (λ (l : List ℕ). slice_index l n) are, last_end cs 0 n e)

pub count_none : {X : Type 0} (cs : List (List X)) (ends : List ℕ) → ends ≡ ends_from 0 cs → length ends ≡ 0 → length (flat cs) ≡ 0
count_none [] ends are count = refl
count_none (c ∷ cs) ends are count = absurd (omega (arith, ap length are))

-- what begins behind a place has a chunk before it, which ends there
pub end_before : (ends : List ℕ) (at i s : ℕ) → s ≡ start_in ends i → at < s → (0 < i) × (at < slice_index ends (i - 1))
end_before ends at zero s e before = absurd (omega arith)
end_before ends at (suc i) s e before = let f : suc i - 1 ≡ i = omega arith in (omega arith, rw f (omega arith))

-- the chunks from one on
pub drop_here : {X : Type 0} (xs : List X) (i : ℕ) (x : X) → slice_get xs i ≡ Some x → drop i xs ≡ x ∷ drop (suc i) xs
drop_here [] i x is = absurd cc
drop_here {X} (y ∷ xs) zero x is = let e : y ≡ x = cc in ap (λ (z : X). z ∷ xs) e
drop_here (y ∷ xs) (suc i) x is = drop_here xs i x is

-- an element that is there has a last chunk behind it or round it
pub last_holds : {X : Type 0} (cs : List (List X)) (ends : List ℕ) (at : ℕ) → ends ≡ ends_from 0 cs → at < length (flat cs) → (0 < length ends) × (at < slice_index ends (length ends - 1))
last_holds cs [] at are within = absurd (omega (arith, count_none cs [] are refl))
last_holds cs (e ∷ ends) at are within =
    let f : suc (length ends) - 1 ≡ length ends = omega arith in
    (omega arith, rw f (omega (arith, count_is cs (e ∷ ends) (length ends) are refl, within)))

-- the element that a chunk holds
pub record Found {X : Type 0} (cs : List (List X)) (at j start : ℕ) (c : List X) : Type 0 where
  pub inside : j < length cs
  pub within : at - start < length c
  pub element : slice_get (flat cs) at ≡ slice_get c (at - start)

pub found : {X : Type 0} (cs : List (List X)) (ends : List ℕ) (at j start : ℕ) (c : List X) → ends ≡ ends_from 0 cs → Holds ends at j → start ≡ start_in ends j → c ≡ get_or cs j c → Found cs at j start c
found cs ends at j start c are holds begins own =
    let stand = stand_of cs ends at j are holds in
    let here : slice_get cs j ≡ Some c = slice_get_read cs (length cs) j c refl stand.inside own in
    let s : start ≡ length (flat (take j cs)) = begins ∙ ap (λ (e : List ℕ). start_in e j) are ∙ start_is cs j (omega (arith, stand.inside)) in
    let more = flat_more cs j c here in
    let inside : at - start < length c = omega (arith, stand.from, stand.to, s, more) in
    record {
      inside = stand.inside;
      within = inside;
      element = element_is cs j at (at - start) c here (omega (arith, stand.from, s)) inside;
    }

-- one more end is noted
pub ends_more : {X : Type 0} (cs : List (List X)) (ends more all : List ℕ) (i next end count : ℕ) (c : List X) → slice_get cs i ≡ Some c → next ≡ suc i → count ≡ length c → more ≡ ends ++ (end + count) ∷ [] → ends ++ ends_from end (drop i cs) ≡ all → more ++ ends_from (end + count) (drop next cs) ≡ all
ends_more cs ends more all i next end count c here at size is so_far =
    let split : ends_from end (drop i cs) ≡ (end + length c) ∷ ends_from (end + length c) (drop (suc i) cs) = ap (ends_from end) (drop_here cs i c here) in
    rw (is, at, size) (append_assoc ends ((end + length c) ∷ []) (ends_from (end + length c) (drop (suc i) cs)) ∙ ap (λ (l : List ℕ). ends ++ l) (sym split) ∙ so_far)

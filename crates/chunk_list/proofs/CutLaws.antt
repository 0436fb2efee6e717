-- Lists in chunks between cuts: what is put in at one, and what is taken out between two places.
use Rattle.std.proofs.Common.{arith, sym, ap, ◌∙◌, ◌≡◌, ◌<◌, ◌≤◌, ◌+◌, ◌-◌, ◌*◌, ℕ, zero, suc, List, [], ◌∷◌, ◌++◌, take, drop, length, append_assoc, refl}
use Rattle.std.proofs.lemmas.List.{length-take-le, take-append-drop, take_at, drop_at, drop-drop, drop-take, take-take, drop_all, take_all, append-nil}
use Rattle.chunk_list.specs.Flat.{IsCut, cut_of, flat}
use Rattle.chunk_list.specs.Replaced.{replaced}
use Rattle.chunk_list.proofs.FlatLaws.{flat-append}

module _ {X : Type 0} (cs : List (List X)) where
  parts : (i : ℕ) → flat cs ≡ flat (take i cs) ++ flat (drop i cs)
  parts i = ap flat (sym (take-append-drop i cs)) ∙ flat-append (take i cs) (drop i cs)

  front : (i a : ℕ) → IsCut cs i a → take a (flat cs) ≡ flat (take i cs)
  front i a c = ap (take a) (parts i) ∙ take_at (flat (take i cs)) (flat (drop i cs)) a c.place

  back : (i a : ℕ) → IsCut cs i a → drop a (flat cs) ≡ flat (drop i cs)
  back i a c = ap (drop a) (parts i) ∙ drop_at (flat (take i cs)) (flat (drop i cs)) a c.place

  -- chunks that were put behind these, and turned to a cut
  pub put_at_cut : (new : List X) (filled turned : List (List X)) (i n at : ℕ) → IsCut cs i at → n ≡ length cs → take n filled ≡ cs → flat (drop n filled) ≡ new → turned ≡ take i filled ++ (drop (n - i) (drop i filled) ++ take (n - i) (drop i filled)) → flat turned ≡ take at (flat cs) ++ new ++ drop at (flat cs)
  put_at_cut new filled turned i n at cut count old fresh is =
      let low : i ≤ n = omega (arith, cut.inside, count) in
      let whole : i + (n - i) ≡ n = omega arith in
      let first : take i filled ≡ take i cs = sym (take-take i n filled low) ∙ ap (take i) old in
      let second : drop (n - i) (drop i filled) ≡ drop n filled = drop-drop (n - i) i filled ∙ ap (λ (k : ℕ). drop k filled) whole in
      let third : take (n - i) (drop i filled) ≡ drop i cs = sym (drop-take i (n - i) filled) ∙ ap (λ (k : ℕ). drop i (take k filled)) whole ∙ ap (drop i) old in
      ap flat is
      ∙ flat-append (take i filled) (drop (n - i) (drop i filled) ++ take (n - i) (drop i filled))
      ∙ ap (λ (l : List X). flat (take i filled) ++ l) (flat-append (drop (n - i) (drop i filled)) (take (n - i) (drop i filled)))
      ∙ ap (λ (l : List (List X)). flat l ++ (flat (drop (n - i) (drop i filled)) ++ flat (take (n - i) (drop i filled)))) first
      ∙ ap (λ (l : List (List X)). flat (take i cs) ++ (flat l ++ flat (take (n - i) (drop i filled)))) second
      ∙ ap (λ (l : List (List X)). flat (take i cs) ++ (flat (drop n filled) ++ flat l)) third
      ∙ ap (λ (l : List X). flat (take i cs) ++ (l ++ flat (drop i cs))) fresh
      ∙ sym (append_assoc (flat (take i cs)) new (flat (drop i cs)))
      ∙ ap (λ (l : List X). l ++ new ++ flat (drop i cs)) (sym (front i at cut))
      ∙ ap (λ (l : List X). take at (flat cs) ++ new ++ l) (sym (back i at cut))

-- two pieces of a list that is two lists
take-append : {X : Type 0} (xs ys : List X) (a : ℕ) → take a (xs ++ ys) ≡ take a xs ++ take (a - length xs) ys
take-append {X} [] ys a =
    let e : a - 0 ≡ a = omega arith in
    let none : ◌≡◌ {A = List X} (take a []) [] = take_all {A = X} a [] (omega arith) in
    rw (e, none) refl
take-append (x ∷ xs) ys zero = let e : 0 - length (x ∷ xs) ≡ 0 = omega arith in ap (λ (k : ℕ). take k ys) (sym e)
take-append {X} (x ∷ xs) ys (suc a) =
    let e : suc a - suc (length xs) ≡ a - length xs = omega arith in
    ap (λ (l : List X). x ∷ l) (take-append xs ys a) ∙ ap (λ (k : ℕ). x ∷ (take a xs ++ take k ys)) (sym e)

drop-append : {X : Type 0} (xs ys : List X) (b : ℕ) → drop b (xs ++ ys) ≡ drop b xs ++ drop (b - length xs) ys
drop-append {X} [] ys b =
    let e : b - 0 ≡ b = omega arith in
    let none : ◌≡◌ {A = List X} (drop b []) [] = drop_all {X = X} b [] (omega arith) in
    rw (e, none) refl
drop-append (x ∷ xs) ys zero = let e : 0 - length (x ∷ xs) ≡ 0 = omega arith in ap (λ (k : ℕ). (x ∷ xs) ++ drop k ys) (sym e)
drop-append (x ∷ xs) ys (suc b) = let e : suc b - suc (length xs) ≡ b - length xs = omega arith in drop-append xs ys b ∙ ap (λ (k : ℕ). drop b xs ++ drop k ys) (sym e)

-- where the second list is taken from, nothing of the first is left behind the piece
one_is_empty : {X : Type 0} (c ys : List X) (a b : ℕ) → a ≤ b → drop b c ++ take (a - length c) ys ≡ take (a - length c) ys ++ drop b c
one_is_empty {X} c ys a b low = by (a - length c) refl
  where
    by : (n : ℕ) → n ≡ a - length c → drop b c ++ take n ys ≡ take n ys ++ drop b c
    by zero e = append-nil (drop b c)
    by (suc n) e =
        let gone : drop b c ≡ [] = drop_all b c (omega arith) in
        rw gone (sym (append-nil (take (suc n) ys)))

-- chunks from which a piece was taken out are the list without it
pub flat-cut_of : {X : Type 0} (cs : List (List X)) (a b : ℕ) → a ≤ b → flat (cut_of cs a b) ≡ take a (flat cs) ++ drop b (flat cs)
flat-cut_of {X} [] a b low =
    let front : ◌≡◌ {A = List X} (take a []) [] = take_all {A = X} a [] (omega arith) in
    let back : ◌≡◌ {A = List X} (drop b []) [] = drop_all {X = X} b [] (omega arith) in
    rw (front, back) refl
flat-cut_of {X} (c ∷ cs) a b low =
    let n : ℕ = length c in
    let rest : flat (cut_of cs (a - n) (b - n)) ≡ take (a - n) (flat cs) ++ drop (b - n) (flat cs) = flat-cut_of cs (a - n) (b - n) (omega arith) in
    let moved = one_is_empty c (flat cs) a b low in
    ap (λ (l : List X). (take a c ++ drop b c) ++ l) rest
    ∙ append_assoc (take a c) (drop b c) (take (a - n) (flat cs) ++ drop (b - n) (flat cs))
    ∙ ap (λ (l : List X). take a c ++ l) (sym (append_assoc (drop b c) (take (a - n) (flat cs)) (drop (b - n) (flat cs))))
    ∙ ap (λ (l : List X). take a c ++ (l ++ drop (b - n) (flat cs))) moved
    ∙ ap (λ (l : List X). take a c ++ l) (append_assoc (take (a - n) (flat cs)) (drop b c) (drop (b - n) (flat cs)))
    ∙ sym (append_assoc (take a c) (take (a - n) (flat cs)) (drop b c ++ drop (b - n) (flat cs)))
    ∙ ap (λ (l : List X). l ++ (drop b c ++ drop (b - n) (flat cs))) (sym (take-append c (flat cs) a))
    ∙ ap (λ (l : List X). take a (c ++ flat cs) ++ l) (sym (drop-append c (flat cs) b))

-- taken out, and put in where it was
pub replaced_is : {X : Type 0} (xs ys zs new : List X) (a b : ℕ) → a ≤ b → b ≤ length xs → ys ≡ take a xs ++ drop b xs → zs ≡ take a ys ++ new ++ drop a ys → zs ≡ replaced xs a b new
replaced_is {X} xs ys zs new a b ordered inside without put =
    let front : length (take a xs) ≡ a = length-take-le a xs (omega arith) in
    let first : take a ys ≡ take a xs = ap (take a) without ∙ take_at (take a xs) (drop b xs) a front in
    let last : drop a ys ≡ drop b xs = ap (drop a) without ∙ drop_at (take a xs) (drop b xs) a front in
    put ∙ ap (λ (l : List X). l ++ new ++ drop a ys) first ∙ ap (λ (l : List X). take a xs ++ new ++ l) last

-- there is room for where each chunk ends
pub room_for_ends : (n before less more room : ℕ) → less ≤ before → before ≤ room → n ≤ 512 * (room - before - 1) → (n ≡ 0 → more ≡ less) → 512 * more < 512 * (less + 2) + n → more ≤ room
room_for_ends zero before less more room low within spare none count = omega (arith, none refl)
room_for_ends (suc n) before less more room low within spare none count = omega arith

-- Chunks, and the list that they are.
use Rattle.std.specs.Prelude.{Some, ◌⊎◌, ◌≡◌, ◌==◌, cond, min, ◌+◌, ◌-◌, ◌<◌, ◌≤◌, ℕ, zero, suc, slice_get, slice_index, List, [], ◌∷◌, ◌++◌, length, take, drop}

-- the chunks, one after another
abbrev pub flat : {X : Type 0} → List (List X) → List X
flat [] = []
flat (c ∷ cs) = c ++ flat cs

-- a cut before chunk i, which is place `at` of the list
pub record IsCut {X : Type 0} (cs : List (List X)) (i at : ℕ) : Type 0 where
  pub inside : i ≤ length cs
  pub place : length (flat (take i cs)) ≡ at

-- the chunk of a place, and where in it
pub record IsPlace {X : Type 0} (cs : List (List X)) (i within at : ℕ) : Type 0 where
  pub inside : i ≤ length cs
  pub place : length (flat (take i cs)) + within ≡ at
  pub within_chunk : (c : List X) → slice_get cs i ≡ Some c → within < length c
  pub at_end : i ≡ length cs → within ≡ 0

-- the chunks without the elements from a to b - 1
abbrev pub cut_of : {X : Type 0} → List (List X) → ℕ → ℕ → List (List X)
cut_of [] a b = []
cut_of (c ∷ cs) a b = (take a c ++ drop b c) ∷ cut_of cs (a - length c) (b - length c)

-- where each chunk ends, the first of them beginning at this place
abbrev pub ends_from : {X : Type 0} → ℕ → List (List X) → List ℕ
ends_from at [] = []
ends_from at (c ∷ cs) = (at + length c) ∷ ends_from (at + length c) cs

-- how many elements the full chunks at the front have, with those of the chunk behind them
abbrev pub even_of : {X : Type 0} → List (List X) → ℕ
even_of [] = 0
even_of (c ∷ cs) = cond (length c == 512) (512 + even_of cs) (min 512 (length c))

-- where chunk i begins, as the ends tell it
abbrev pub start_in : List ℕ → ℕ → ℕ
start_in ends zero = 0
start_in ends (suc i) = slice_index ends i

-- chunk i has this place
pub record Holds (ends : List ℕ) (at i : ℕ) : Type 0 where
  pub inside : i < length ends
  pub from : start_in ends i ≤ at
  pub to : at < slice_index ends i

-- there is a last chunk, and it has room for one more element
pub record HasRoom {X : Type 0} (cs : List (List X)) : Type 0 where
  pub some : 0 < length cs
  pub room : (front : List (List X)) (last : List X) → cs ≡ front ++ last ∷ [] → length last < 512

-- an element was put into the open chunk; or this one was full, went behind the others, and the element
-- is the first of a new one, of which there were so many
abbrev pub IsPut : {X : Type 0} → X → List (List X) → ℕ → List X → List (List X) → ℕ → List X → Type 0
IsPut x chunks empty chunk chunks' empty' chunk' =
    ((length chunk < 512) × (chunks' ≡ chunks) × (empty' ≡ empty) × (chunk' ≡ chunk ++ x ∷ []))
    ⊎ ((length chunk ≡ 512) × (chunks' ≡ chunks ++ chunk ∷ []) × (empty' + 1 ≡ empty) × (chunk' ≡ x ∷ []))

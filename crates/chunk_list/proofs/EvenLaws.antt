-- Elements that stand where they would if all chunks were full.
use Rattle.std.proofs.Common.{arith, ap, ◌∙◌, ◌≡◌, inl, inr, ◌<◌, ◌≤◌, ◌+◌, ◌*◌, ℕ, zero, suc, cond, min, Bool, eqb, List, [], ◌∷◌, take, drop, set, length, length-append, refl}
use Rattle.std.specs.Prelude.{Some, slice_get}
use Rattle.std.proofs.lemmas.Bool.{cases_eq, eq-eqb, ne_eqb}
use Rattle.chunk_list.specs.Flat.{even_of, flat}
use Rattle.chunk_list.proofs.EndLaws.{drop_here, element_is}

pub even_full : {X : Type 0} (c : List X) (cs : List (List X)) → length c ≡ 512 → even_of (c ∷ cs) ≡ 512 + even_of cs
even_full c cs full = ap (λ (b : Bool). cond b (512 + even_of cs) (min 512 (length c))) (eq-eqb (length c) 512 full)

pub even_open : {X : Type 0} (c : List X) (cs : List (List X)) → (length c ≡ 512 → ⊥) → even_of (c ∷ cs) ≡ min 512 (length c)
even_open c cs other = ap (λ (b : Bool). cond b (512 + even_of cs) (min 512 (length c))) (ne_eqb (length c) 512 other)

-- the chunks from one on, which is full
pub even_here : {X : Type 0} (cs : List (List X)) (i : ℕ) (c : List X) → slice_get cs i ≡ Some c → length c ≡ 512 → even_of (drop i cs) ≡ 512 + even_of (drop (suc i) cs)
even_here {X} cs i c is full = ap even_of (drop_here cs i c is) ∙ even_full c (drop (suc i) cs) full

-- the chunks from one on, which has room
pub even_last : {X : Type 0} (cs : List (List X)) (i : ℕ) (c : List X) → slice_get cs i ≡ Some c → length c < 512 → even_of (drop i cs) ≡ length c
even_last {X} cs i c is few =
    let last : even_of (c ∷ drop (suc i) cs) ≡ min 512 (length c) = even_open c (drop (suc i) cs) (λ e. omega (arith, e)) in
    ap even_of (drop_here cs i c is) ∙ omega (arith, last)

-- the chunk of an element, and where that begins
pub record Even {X : Type 0} (cs : List (List X)) (i within : ℕ) : Type 0 where
  pub inside : i < length cs
  pub begins : length (flat (take i cs)) ≡ 512 * i
  pub has : (c : List X) → slice_get cs i ≡ Some c → within < length c

pub even_place : {X : Type 0} (cs : List (List X)) (at i within : ℕ) → at < even_of cs → at ≡ 512 * i + within → within < 512 → Even cs i within
even_place [] at i within low place less = absurd (omega arith)
even_place {X} (c ∷ cs) at zero within low place less = record {
  inside = omega arith;
  begins = refl;
  has = λ d is. let same : c ≡ d = cc in elim (cases_eq (length c) 512) [
    | inl full ↦ omega (arith, ap length same, full)
    | inr other ↦ omega (arith, ap length same, even_open c cs other)
  ];
}
even_place {X} (c ∷ cs) at (suc i) within low place less = elim (cases_eq (length c) 512) [
  | inl full ↦
      let rest = even_place cs (512 * i + within) i within (omega (arith, even_full c cs full)) refl less in
      record {
        inside = omega (arith, rest.inside);
        begins = omega (arith, length-append c (flat (take i cs)), rest.begins, full);
        has = rest.has;
      }
  | inr other ↦ absurd (omega (arith, even_open c cs other))
]

-- the element that stands there
pub record EvenFound {X : Type 0} (cs : List (List X)) (at i within : ℕ) : Type 0 where
  pub inside : i < length cs
  pub element : (c : List X) → slice_get cs i ≡ Some c → (within < length c) × (slice_get (flat cs) at ≡ slice_get c within)

pub even_found : {X : Type 0} (cs : List (List X)) (at i within : ℕ) → at < even_of cs → at ≡ 512 * i + within → within < 512 → EvenFound cs at i within
even_found cs at i within low place less =
    let e = even_place cs at i within low place less in
    record {
      inside = e.inside;
      element = λ c is. (e.has c is, element_is cs i at within c is (omega (arith, e.begins, place)) (e.has c is));
    }

-- no element goes further than the list
pub even_within : {X : Type 0} (cs : List (List X)) → even_of cs ≤ length (flat cs)
even_within [] = omega arith
even_within (c ∷ cs) = elim (cases_eq (length c) 512) [
  | inl full ↦ omega (arith, even_full c cs full, even_within cs, length-append c (flat cs))
  | inr other ↦ omega (arith, even_open c cs other, length-append c (flat cs))
]

-- an element exchanged in its chunk
pub even_set : {X : Type 0} (cs : List (List X)) (i : ℕ) (c e : List X) → slice_get cs i ≡ Some c → length e ≡ length c → even_of (set cs i e) ≡ even_of cs
even_set [] i c e is same = absurd cc
even_set {X} (d ∷ cs) zero c e is same =
    let own : c ≡ d = cc in
    let n : length e ≡ length d = same ∙ ap length own in
    ap (λ (n : ℕ). cond (eqb n 512) (512 + even_of cs) (min 512 n)) n
even_set (d ∷ cs) (suc i) c e is same = ap (λ (n : ℕ). cond (eqb (length d) 512) (512 + n) (min 512 (length d))) (even_set cs i c e is same)

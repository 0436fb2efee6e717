-- Elements that are put into chunks one by one.
use Rattle.std.proofs.Common.{arith, sym, ap, ◌∙◌, ◌≡◌, ◌<◌, ◌≤◌, ◌+◌, ◌*◌, ℕ, List, [], ◌∷◌, ◌++◌, take, drop, length, append_assoc, length-append, subst, inl, inr}
use Rattle.std.proofs.lemmas.List.{append-nil, drop-append-le, take-append-le}
use Rattle.chunk_list.specs.Flat.{IsPut, flat}
use Rattle.chunk_list.proofs.FlatLaws.{flat_pushed}

-- From `old`, made out of these many elements so far, came these chunks behind it and one that is open;
-- so many empty ones are left.
pub record Filled {X : Type 0} (old chunks : List (List X)) (chunk so_far : List X) (left before : ℕ) : Type 0 where
  pub behind : take (length old) chunks ≡ old
  pub items : flat (drop (length old) chunks) ++ chunk ≡ so_far
  pub more : length old ≤ length chunks
  pub full : 512 * length chunks + length chunk ≡ 512 * length old + length so_far
  pub empty : left + length chunks ≡ before + length old
  pub few : length chunk ≤ 512
  pub begun : 0 < length so_far → 0 < length chunk

module _ {X : Type 0} (old chunks : List (List X)) (chunk so_far : List X) (left before : ℕ) (f : Filled old chunks chunk so_far left before) where
  -- the open chunk is full, and goes behind the others
  pub next_chunk : (next : List (List X)) (n : ℕ) → length chunk ≡ 512 → next ≡ chunks ++ chunk ∷ [] → n + 1 ≡ left → (x : X) → Filled old next (x ∷ []) (so_far ++ x ∷ []) n before
  next_chunk next n full is one x =
      let count : length next ≡ length chunks + 1 = ap length is ∙ length-append chunks (chunk ∷ []) in
      let behind : drop (length old) next ≡ drop (length old) chunks ++ chunk ∷ [] = ap (drop (length old)) is ∙ drop-append-le (length old) chunks (chunk ∷ []) f.more in
      let all : flat (drop (length old) next) ≡ so_far = ap flat behind ∙ flat_pushed (drop (length old) chunks) chunk ∙ f.items in
      record {
        behind = ap (take (length old)) is ∙ take-append-le (length old) chunks (chunk ∷ []) f.more ∙ f.behind;
        items = ap (λ (l : List X). l ++ x ∷ []) all;
        more = omega (arith, f.more, count);
        full = omega (arith, f.full, count, full, length-append so_far (x ∷ []));
        empty = omega (arith, f.empty, count, one);
        few = omega arith;
        begun = λ _. omega arith;
      }

  -- the open chunk has room for one more
  pub one_more : (chunk' : List X) (x : X) → length chunk < 512 → chunk' ≡ chunk ++ x ∷ [] → Filled old chunks chunk' (so_far ++ x ∷ []) left before
  one_more chunk' x room is =
      let count : length chunk' ≡ length chunk + 1 = ap length is ∙ length-append chunk (x ∷ []) in
      record {
        behind = f.behind;
        items = ap (λ (l : List X). flat (drop (length old) chunks) ++ l) is ∙ sym (append_assoc (flat (drop (length old) chunks)) chunk (x ∷ [])) ∙ ap (λ (l : List X). l ++ x ∷ []) f.items;
        more = f.more;
        full = omega (arith, f.full, count, length-append so_far (x ∷ []));
        empty = f.empty;
        few = omega arith;
        begun = λ _. omega arith;
      }

  -- the open chunk goes behind the others at the end
  pub filled_all : (next : List (List X)) → next ≡ chunks ++ chunk ∷ [] → (take (length old) next ≡ old) × (flat (drop (length old) next) ≡ so_far) × (length next ≡ length chunks + 1)
  filled_all next is =
      let behind : drop (length old) next ≡ drop (length old) chunks ++ chunk ∷ [] = ap (drop (length old)) is ∙ drop-append-le (length old) chunks (chunk ∷ []) f.more in (
        ap (take (length old)) is ∙ take-append-le (length old) chunks (chunk ∷ []) f.more ∙ f.behind,
        ap flat behind ∙ flat_pushed (drop (length old) chunks) chunk ∙ f.items,
        ap length is ∙ length-append chunks (chunk ∷ []),
      )

-- what is to come, one by one
pub nothing_left : {X : Type 0} (ran rest all : List X) (n : ℕ) → ran ++ rest ≡ all → n ≡ length rest → n ≡ 0 → ran ≡ all
nothing_left ran [] all n same count none = sym (append-nil ran) ∙ same
nothing_left ran (x ∷ rest) all n same count none = absurd (omega arith)

-- one more element
pub filled_more : {X : Type 0} (old chunks : List (List X)) (chunk so_far : List X) (left before : ℕ) → Filled old chunks chunk so_far left before → (x : X) (chunks' : List (List X)) (left' : ℕ) (chunk' : List X) → IsPut x chunks left chunk chunks' left' chunk' → Filled old chunks' chunk' (so_far ++ x ∷ []) left' before
filled_more {X} old chunks chunk so_far left before f x chunks' left' chunk' put = by put
  where
    by : IsPut x chunks left chunk chunks' left' chunk' → Filled old chunks' chunk' (so_far ++ x ∷ []) left' before
    by (inl same) =
        let more = one_more old chunks chunk so_far left before f chunk' x same.0 same.3 in
        let C : List (List X) → Type 0 = λ l. Filled old l chunk' (so_far ++ x ∷ []) left before in
        let E : ℕ → Type 0 = λ n. Filled old chunks' chunk' (so_far ++ x ∷ []) n before in
        subst E (sym same.2) (subst C (sym same.1) more)
    by (inr next) =
        let more = next_chunk old chunks chunk so_far left before f chunks' left' next.0 next.1 next.2 x in
        let C : List X → Type 0 = λ l. Filled old chunks' l (so_far ++ x ∷ []) left' before in
        subst C (sym next.3) more

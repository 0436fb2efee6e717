-- An element put at the end of the last chunk.
use Rattle.std.proofs.Common.{arith, sym, ap, ◌∙◌, ◌≡◌, inl, inr, ◌<◌, ◌≤◌, ◌+◌, ◌-◌, ◌*◌, ℕ, cond, min, eqb, List, [], ◌∷◌, ◌++◌, length, length-append, append_assoc, refl}
use Rattle.std.specs.Prelude.{Some, slice_get}
use Rattle.std.proofs.lemmas.Bool.{cases_eq}
use Rattle.std.proofs.lemmas.List.{append-nil}
use Rattle.chunk_list.specs.Flat.{HasRoom, ends_from, even_of, flat}
use Rattle.chunk_list.proofs.EndLaws.{get-right}
use Rattle.chunk_list.proofs.EvenLaws.{even_full, even_open}
use Rattle.chunk_list.proofs.FlatLaws.{flat-append}

-- two lists with something behind them are the same in both
pub snoc_same : {X : Type 0} (xs ys : List X) (x y : X) → xs ++ x ∷ [] ≡ ys ++ y ∷ [] → (xs ≡ ys) × (x ≡ y)
snoc_same [] [] x y e = (refl, cc)
snoc_same [] (b ∷ ys) x y e = absurd (omega (arith, ap length e, length-append ys (y ∷ [])))
snoc_same (a ∷ xs) [] x y e = absurd (omega (arith, ap length e, length-append xs (x ∷ [])))
snoc_same {X} (a ∷ xs) (b ∷ ys) x y e =
    let tails : xs ++ x ∷ [] ≡ ys ++ y ∷ [] = cc in
    let heads : a ≡ b = cc in
    let same = snoc_same xs ys x y tails in
    (ap (λ (z : X). z ∷ xs) heads ∙ ap (λ (zs : List X). b ∷ zs) same.0, same.1)

last_at : {X : Type 0} (front : List X) (last : X) → slice_get (front ++ last ∷ []) (length (front ++ last ∷ []) - 1) ≡ Some last
last_at front last = get-right front (last ∷ []) _ 0 (omega (arith, length-append front (last ∷ [])))

-- the last chunk, as code finds it
pub has_room_by : {X : Type 0} (cs : List (List X)) (c : List X) → slice_get cs (length cs - 1) ≡ Some c → 0 < length cs → length c < 512 → HasRoom cs
has_room_by {X} cs c is some few = record {
  some = some;
  room = λ front last e.
      let there : slice_get cs (length cs - 1) ≡ Some last = ap (λ (l : List (List X)). slice_get l (length l - 1)) e ∙ last_at front last in
      let same : c ≡ last = cc in
      omega (arith, few, ap length same);
}

-- a chunk without elements behind the others
pub opened : {X : Type 0} (cs : List (List X)) → HasRoom (cs ++ [] ∷ [])
opened {X} cs = record {
  some = omega (arith, length-append cs ([] ∷ []));
  room = λ front last e. let same = (snoc_same cs front [] last e).1 in omega (arith, ap length same);
}

pub opened_flat : {X : Type 0} (cs : List (List X)) → flat (cs ++ [] ∷ []) ≡ flat cs
opened_flat cs = flat-append cs ([] ∷ []) ∙ append-nil (flat cs)

pub ends_behind : {X : Type 0} (cs : List (List X)) (s : ℕ) (c : List X) → ends_from s (cs ++ c ∷ []) ≡ ends_from s cs ++ (s + length (flat cs) + length c) ∷ []
ends_behind [] s c = ap (λ n. n ∷ []) (omega arith)
ends_behind (d ∷ cs) s c =
    let n : s + length d + length (flat cs) + length c ≡ s + length (flat (d ∷ cs)) + length c = omega (arith, length-append d (flat cs)) in
    ap (λ l. (s + length d) ∷ l) (ends_behind cs (s + length d) c ∙ ap (λ n. ends_from (s + length d) cs ++ n ∷ []) n)

pub opened_ends : {X : Type 0} (cs : List (List X)) → ends_from 0 (cs ++ [] ∷ []) ≡ ends_from 0 cs ++ length (flat cs) ∷ []
opened_ends {X} cs = let n : 0 + length (flat cs) + length {A = X} [] ≡ length (flat cs) = omega arith in ends_behind cs 0 [] ∙ ap (λ n. ends_from 0 cs ++ n ∷ []) n

even_cons : {X : Type 0} (d : List X) (cs ds : List (List X)) → even_of cs ≡ even_of ds → even_of (d ∷ cs) ≡ even_of (d ∷ ds)
even_cons d cs ds e = ap (λ (n : ℕ). cond (eqb (length d) 512) (512 + n) (min 512 (length d))) e

pub opened_even : {X : Type 0} (cs : List (List X)) → even_of (cs ++ [] ∷ []) ≡ even_of cs
opened_even [] = refl
opened_even (d ∷ cs) = even_cons d (cs ++ [] ∷ []) cs (opened_even cs)

-- an element more in the last chunk
pub pushed_flat : {X : Type 0} (cs : List (List X)) (c : List X) (x : X) → flat (cs ++ (c ++ x ∷ []) ∷ []) ≡ flat (cs ++ c ∷ []) ++ x ∷ []
pushed_flat {X} cs c x =
    flat-append cs ((c ++ x ∷ []) ∷ []) ∙ ap (λ (l : List X). flat cs ++ l) (append-nil (c ++ x ∷ [])) ∙ sym (append_assoc (flat cs) c (x ∷ []))
    ∙ ap (λ (l : List X). l ++ x ∷ []) (sym (flat-append cs (c ∷ []) ∙ ap (λ (l : List X). flat cs ++ l) (append-nil c)))

length_behind : {X : Type 0} (cs : List (List X)) (c : List X) → length (flat (cs ++ c ∷ [])) ≡ length (flat cs) + length c
length_behind [] c = omega (arith, length-append c [])
length_behind (d ∷ cs) c = omega (arith, length-append d (flat (cs ++ c ∷ [])), length-append d (flat cs), length_behind cs c)

-- where all chunks before the last one are full, and so each element stands evenly
pub pushed_even : {X : Type 0} (cs : List (List X)) (c e : List X) → length e ≤ 512 → length (flat cs) ≡ 512 * length cs → even_of (cs ++ c ∷ []) ≡ length (flat (cs ++ c ∷ [])) → even_of (cs ++ e ∷ []) ≡ length (flat cs) + length e
pushed_even [] c e few full even = elim (cases_eq (length e) 512) [
  | inl is ↦ omega (arith, even_full e [] is)
  | inr other ↦ omega (arith, even_open e [] other)
]
pushed_even (d ∷ cs) c e few full even =
    let here = length-append d (flat cs) in
    let all = length-append d (flat (cs ++ c ∷ [])) in
    elim (cases_eq (length d) 512) [
      | inl is ↦
          let rest = pushed_even cs c e few (omega (arith, full, here, is)) (omega (arith, even, even_full d (cs ++ c ∷ []) is, all, is)) in
          omega (arith, even_full d (cs ++ e ∷ []) is, rest, here, is)
      | inr other ↦ absurd (omega (arith, even_open d (cs ++ c ∷ []) other, even, all, length_behind cs c, here, full))
    ]

-- where one isn't, no element stands evenly behind it
pub pushed_uneven : {X : Type 0} (cs : List (List X)) (c e : List X) → length c < 512 → ((length (flat cs) ≡ 512 * length cs) → even_of (cs ++ c ∷ []) ≡ length (flat (cs ++ c ∷ [])) → ⊥) → even_of (cs ++ e ∷ []) ≡ even_of (cs ++ c ∷ [])
pushed_uneven [] c e few not =
    let open_ : even_of (c ∷ []) ≡ length c = even_open c [] (λ is. omega (arith, few, is)) ∙ omega (arith, few) in
    absurd (not (omega arith) (omega (arith, open_, length-append c [])))
pushed_uneven (d ∷ cs) c e few not =
    let here = length-append d (flat cs) in
    let all = length-append d (flat (cs ++ c ∷ [])) in
    elim (cases_eq (length d) 512) [
      | inl is ↦ even_cons d (cs ++ e ∷ []) (cs ++ c ∷ []) (pushed_uneven cs c e few (λ full even.
          not (omega (arith, full, here, is)) (omega (arith, even, even_full d (cs ++ c ∷ []) is, all, is))))
      | inr other ↦ even_open d (cs ++ e ∷ []) other ∙ sym (even_open d (cs ++ c ∷ []) other)
    ]

-- the last chunk and its end are taken out
pub record Taken {X : Type 0} (cs front : List (List X)) (last : List X) (before : List ℕ) (end : ℕ) : Type 0 where
  pub few : length last < 512
  pub ends_are : before ≡ ends_from 0 front
  pub end_is : end ≡ length (flat front) + length last
  pub all : length (flat cs) ≡ length (flat front) + length last

pub taken : {X : Type 0} (cs front : List (List X)) (last : List X) (ends before : List ℕ) (end : ℕ) → HasRoom cs → ends ≡ ends_from 0 cs → cs ≡ front ++ last ∷ [] → ends ≡ before ++ end ∷ [] → Taken cs front last before end
taken {X} cs front last ends before end room are chunks noted =
    let both : before ++ end ∷ [] ≡ ends_from 0 front ++ (0 + length (flat front) + length last) ∷ [] = sym noted ∙ are ∙ ap (ends_from 0) chunks ∙ ends_behind front 0 last in
    let same = snoc_same before (ends_from 0 front) end (0 + length (flat front) + length last) both in
    record {
      few = room.room front last chunks;
      ends_are = same.0;
      end_is = omega (arith, same.1);
      all = ap (λ (l : List (List X)). length (flat l)) chunks ∙ length_behind front last;
    }

-- they are put back with an element more
pub record Put {X : Type 0} (cs front : List (List X)) (last : List X) (before : List ℕ) (end : ℕ) (x : X) (cs' : List (List X)) (ends' : List ℕ) : Type 0 where
  pub list : flat cs' ≡ flat cs ++ x ∷ []
  pub ends_are : ends' ≡ ends_from 0 cs'
  pub even : (length (flat front) ≡ 512 * length front) → even_of cs ≡ end → even_of cs' ≡ end + 1
  pub uneven : ((length (flat front) ≡ 512 * length front) → even_of cs ≡ end → ⊥) → even_of cs' ≡ even_of cs

pub put_back : {X : Type 0} (cs front : List (List X)) (last : List X) (before : List ℕ) (end : ℕ) (x : X) (new : List X) (cs' : List (List X)) (ends' : List ℕ) → Taken cs front last before end → cs ≡ front ++ last ∷ [] → new ≡ last ++ x ∷ [] → cs' ≡ front ++ new ∷ [] → ends' ≡ before ++ (end + 1) ∷ [] → Put cs front last before end x cs' ends'
put_back {X} cs front last before end x new cs' ends' t chunks more puts noted =
    let longer : length new ≡ length last + 1 = ap length more ∙ omega (arith, length-append last (x ∷ [])) in
    let whole : length (flat (front ++ last ∷ [])) ≡ end = omega (arith, length_behind front last, t.end_is) in
    record {
      list = ap flat puts ∙ ap (λ (l : List X). flat (front ++ l ∷ [])) more ∙ pushed_flat front last x ∙ ap (λ (l : List (List X)). flat l ++ x ∷ []) (sym chunks);
      ends_are = noted ∙ ap (λ l. l ++ (end + 1) ∷ []) t.ends_are ∙ ap (λ n. ends_from 0 front ++ n ∷ []) (omega (arith, t.end_is, longer)) ∙ sym (ap (ends_from 0) puts ∙ ends_behind front 0 new);
      even = λ full is.
          let e = pushed_even front last new (omega (arith, longer, t.few)) full (ap even_of (sym chunks) ∙ is ∙ sym whole) in
          ap even_of puts ∙ e ∙ omega (arith, longer, t.end_is);
      uneven = λ not.
          ap even_of puts ∙ pushed_uneven front last new t.few (λ full is. not full (ap even_of chunks ∙ is ∙ whole)) ∙ ap even_of (sym chunks);
    }

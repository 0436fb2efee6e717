-- A line that was looked at stays among those looked at.
use Rattle.std.proofs.lemmas.Bool.{or_parts}
use Rattle.region_ends.proofs.Common.{◌≡◌, ◌∙◌, sym, ap, subst, arith, ℕ, Some, None, pos, Looked, one_line, hull_assoc, Painted, Done, Refused, looked_first, HoldsLine, ℤ, hull_of, lesser, greater, hull_comm}
use Rattle.std.proofs.lemmas.Int.{ints}

wider : (j n : Looked) (l : ℕ) → HoldsLine j l → HoldsLine (hull_of j n) l
wider j n l h =
    hull_assoc j n (one_line (pos l))
    ∙ (ap (hull_of j) (hull_comm n (one_line (pos l)))
    ∙ (sym (hull_assoc j (one_line (pos l)) n) ∙ ap (λ (k : Looked). hull_of k n) h))

abbrev looked_then : {E A : Type 0} → Looked → Painted E A → Looked
looked_then j (Done a None) = j
looked_then j (Done a (Some k)) = k
looked_then j (Refused c k) = j

held_by : {E A : Type 0} (j : Looked) (l : ℕ) (p : Painted E A) → HoldsLine j l → HoldsLine (looked_then j (looked_first (Some j) p)) l
held_by j l (Done a None) h = h
held_by j l (Done a (Some n)) h = wider j n l h
held_by j l (Refused c k) h = h

pub still_held : {E A : Type 0} (j k : Looked) (l : ℕ) (p : Painted E A) (a : A) → HoldsLine j l → looked_first (Some j) p ≡ Done a (Some k) → HoldsLine k l
still_held {E = E} {A = A} j k l p a h e =
    subst (λ (q : Painted E A). HoldsLine (looked_then j q) l) e (held_by j l p h)

lesser_once : (a b c : ℤ) → lesser a b ≡ c → lesser a c ≡ a → a ≡ c
lesser_once a b c e h = grind (arith, ints, e, h)

greater_once : (a b c : ℤ) → greater a b ≡ c → greater a c ≡ a → a ≡ c
greater_once a b c e h = grind (arith, ints, e, h)

-- where all looks are at one line, so were those before
pub alone_before : {E A : Type 0} (k : Looked) (l : ℕ) (p : Painted E A) (a : A) → HoldsLine k l → looked_first (Some k) p ≡ Done a (Some (one_line (pos l))) → k ≡ one_line (pos l)
alone_before k l (Done b None) a h e = cc
alone_before k l (Done b (Some n)) a h e =
    let whole : hull_of k n ≡ one_line (pos l) = cc in
    λ i. record {
      low = lesser_once k.low n.low (pos l) (ap (λ (j : Looked). j.low) whole) (ap (λ (j : Looked). j.low) h) i;
      high = greater_once k.high n.high (pos l) (ap (λ (j : Looked). j.high) whole) (ap (λ (j : Looked). j.high) h) i;
      numbered = (or_parts k.numbered n.numbered (ap (λ (j : Looked). j.numbered) whole)).0 i;
    }
alone_before k l (Refused c m) a h e = absurd (cc)

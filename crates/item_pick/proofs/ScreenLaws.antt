-- Where the screen fails, an attempt tells nothing that isn't known.
use Rattle.item_pick.proofs.Common.{◌≡◌, ◌∙◌, refl, sym, ap, subst, arith, ℕ, ◌≤◌, Bool, true, false, length, Some, None, pos, ◌||◌, nat_lt, nat_tests, Looked, Place, hull_of, one_line, Text, line_at, ItemId, Pattern, Painted, Done, Refused, looked_first, Rules, item_of, no_externals, place_at, within_budget, match_from, IsFutile, may_start_at, HoldsLine, HoldsLines, IsIdle, ℤ, lesser, greater}
use Rattle.std.proofs.lemmas.Int.{ints}
use Rattle.paint_rules.specs.Rules.{Attempt}
use Rattle.syn_base.proofs.HullLaws.{hull_assoc, hull_comm}
use Rattle.item_pick.proofs.MatchLaws.{match_absent, no_start}

-- lines looked at stay among those looked at
wider : (j n : Looked) (l : ℕ) → HoldsLine j l → HoldsLine (hull_of j n) l
wider j n l h =
    hull_assoc j n (one_line (pos l))
    ∙ (ap (hull_of j) (hull_comm n (one_line (pos l)))
    ∙ (sym (hull_assoc j (one_line (pos l)) n) ∙ ap (λ (k : Looked). hull_of k n) h))

lesser_less : (k a b : ℤ) → lesser k (lesser a b) ≡ k → (lesser k a ≡ k) × (lesser k b ≡ k)
lesser_less k a b e = (grind (arith, ints), grind (arith, ints))

greater_less : (k a b : ℤ) → greater k (greater a b) ≡ k → (greater k a ≡ k) × (greater k b ≡ k)
greater_less k a b e = (grind (arith, ints), grind (arith, ints))

or_less : (k a b : Bool) → (k || (a || b)) ≡ k → ((k || a) ≡ k) × ((k || b) ≡ k)
or_less true a b e = (refl, refl)
or_less false false false e = (refl, refl)
or_less false true b e = absurd (cc)
or_less false false true e = absurd (cc)

-- where the lines of two were looked at, those of each were
pub each_held : (k a b : Looked) → HoldsLines k (hull_of a b) → HoldsLines k a × HoldsLines k b
each_held k a b h =
    let low = lesser_less k.low a.low b.low (ap (λ (x : Looked). x.low) h) in
    let high = greater_less k.high a.high b.high (ap (λ (x : Looked). x.high) h) in
    let numbered = or_less k.numbered a.numbered b.numbered (ap (λ (x : Looked). x.numbered) h) in (
      λ i. record { low = low.0 i; high = high.0 i; numbered = numbered.0 i },
      λ i. record { low = low.1 i; high = high.1 i; numbered = numbered.1 i },
    )

abbrev looked_then : {E A : Type 0} → Looked → Painted E A → Looked
looked_then j (Done a None) = j
looked_then j (Done a (Some k)) = k
looked_then j (Refused c k) = j

held_by : {E A : Type 0} (j : Looked) (l : ℕ) (p : Painted E A) → HoldsLine j l → HoldsLine (looked_then j (looked_first (Some j) p)) l
held_by j l (Done a None) h = h
held_by j l (Done a (Some n)) h = wider j n l h
held_by j l (Refused c k) h = h

pub still_held : {E A : Type 0} (j k : Looked) (l : ℕ) (p : Painted E A) (a : A) → HoldsLine j l → looked_first (Some j) p ≡ Done a (Some k) → HoldsLine k l
still_held {E = E} {A = A} j k l p a h e =
    subst (λ (q : Painted E A). HoldsLine (looked_then j q) l) e (held_by j l p h)

module _ (budget cost : ℕ) (i : ItemId) (a : Attempt) (k : Looked) (l : ℕ) where
  futile_told : HoldsLine k l → IsFutile a cost l → cost ≤ budget → looked_first (Some k) (within_budget i budget a) ≡ Done None (Some k)
  futile_told held futile enough =
      let e : nat_lt budget a.cost ≡ false = grind (arith, nat_tests, futile.1, enough) in
      rw (within_budget, e, futile.0, futile.2) (ap (λ (x : Looked). Done None (Some x)) held)

module _ (r : Rules) (t : Text) (i : ItemId) (pattern : Pattern) (p : Place) (c cost : ℕ) (k : Looked) (held : HoldsLine k p.line)
    (futile : IsFutile (r.attempt t pattern.tree (item_of r.items i).ignore no_externals (place_at p.line c)) cost p.line) (enough : cost ≤ r.budget) where
  by_start : (b : Bool) → b ≡ may_start_at pattern (length (line_at t p.line)) p.col c → IsIdle (match_from r t i pattern p) k c
  by_start false e = ap (looked_first (Some k)) (no_start r t i pattern p c (sym e))
  by_start true e =
      match_absent r t i pattern p c k k (sym e) (futile_told r.budget cost i (r.attempt t pattern.tree (item_of r.items i).ignore no_externals (place_at p.line c)) k p.line held futile enough)

  pub futile_idle : IsIdle (match_from r t i pattern p) k c
  futile_idle = by_start (may_start_at pattern (length (line_at t p.line)) p.col c) refl

-- Spans that fit a line, are maximal and show the same are the same.
use Rattle.std.proofs.Common.{◌≡◌, ◌<◌, ◌≤◌, ◌+◌, ℕ, zero, suc, Bool, true, false, List, [], ◌∷◌}
use Rattle.std.proofs.Common.{refl, sym, ap, ◌∙◌, subst, arith}
use Rattle.std.specs.Prelude.{Some, None, nat_lt}
use Rattle.std.proofs.lemmas.Bool.Decides.{nat_tests}
use Rattle.syn_base.specs.SpansFit.{IsFromColumn}
use Rattle.syn_base.specs.declared.places.Span.{Span}
use Rattle.paint_laws.specs.Shown.{group_at, AreMaximal, NoOtherSpansDo}
use Rattle.paint_laws.proofs.SpanLaws.{IsApart, AreApart, passed, hit, has_not_behind, has_within}
use Rattle.paint_laws.proofs.SpanLaws.{none_before}

-- at its first column a span shows its group
at_first : (c end : ℕ) (s : Span) (spans : List Span) → IsFromColumn c end (s ∷ spans) →
    group_at (s ∷ spans) s.first ≡ Some s.group
at_first c end s spans h = hit s spans s.first (has_within s s.first (omega arith) h.1)

-- behind a span its group doesn't go on
ends_there : (end : ℕ) (s : Span) (spans : List Span) → IsFromColumn (s.last + 1) end spans →
    IsApart s spans → group_at spans (s.last + 1) ≡ Some s.group → ⊥
ends_there end s [] h apart e = absurd (cc)
ends_there end s (t ∷ spans) h apart e = by_first (nat_lt (s.last + 1) t.first) refl
  where
    by_first : (b : Bool) → nat_lt (s.last + 1) t.first ≡ b → ⊥
    by_first true f =
        let l : s.last + 1 < t.first = grind (arith, nat_tests) in
        let none : group_at (t ∷ spans) (s.last + 1) ≡ None =
        none_before t.first end (s.last + 1) (t ∷ spans) (omega arith, h.1, h.2, h.3) l in
        let clash : None ≡ Some s.group = sym none ∙ e in
        absurd (cc)
    by_first false f =
        let l : t.first ≤ s.last + 1 = grind (arith, nat_tests) in
        let here : t.first ≡ suc s.last = omega (arith, h.0, l) in
        let at : s.last + 1 ≡ t.first = omega (arith, here) in
        let shown : Some t.group ≡ Some s.group =
        sym (at_first (s.last + 1) end t spans h) ∙ (ap (group_at (t ∷ spans)) (sym at) ∙ e) in
        let same : t.group ≡ s.group = cc in
        apart here same

-- where two lists show the same, the one doesn't begin before the other
not_before : (c end : ℕ) (s t : Span) (a b : List Span) → IsFromColumn c end (s ∷ a) →
    IsFromColumn c end (t ∷ b) →
    ((d : ℕ) → c ≤ d → d < end → group_at (t ∷ b) d ≡ group_at (s ∷ a) d) → s.first < t.first → ⊥
not_before c end s t a b h k same l =
    let none : group_at (t ∷ b) s.first ≡ None =
    none_before t.first end s.first (t ∷ b) (omega arith, k.1, k.2, k.3) l in
    let clash : None ≡ Some s.group =
    sym none ∙ (same s.first h.0 (omega (arith, h.1, h.2)) ∙ at_first c end s a h) in
    absurd (cc)

-- nor does its first span end before the other's
not_shorter : (c end : ℕ) (s t : Span) (a b : List Span) → IsFromColumn c end (s ∷ a) →
    IsFromColumn c end (t ∷ b) → IsApart s a →
    ((d : ℕ) → c ≤ d → d < end → group_at (t ∷ b) d ≡ group_at (s ∷ a) d) → t.first ≡ s.first →
    s.last < t.last → ⊥
not_shorter c end s t a b h k apart same begin l =
    let within : s.last + 1 < end = omega (arith, k.2, l) in
    let from : c ≤ s.last + 1 = omega (arith, h.0, h.1) in
    let there : group_at (t ∷ b) (s.last + 1) ≡ Some t.group =
    hit t b (s.last + 1)
    (has_within t (s.last + 1) (omega (arith, begin, h.1)) (omega (arith, l))) in
    let past : group_at (s ∷ a) (s.last + 1) ≡ group_at a (s.last + 1) =
    passed s a (s.last + 1) (has_not_behind s (s.last + 1) (omega arith)) in
    let first : Some t.group ≡ Some s.group =
    sym (at_first c end t b k)
    ∙ (ap (group_at (t ∷ b)) begin
    ∙ (same s.first h.0 (omega (arith, h.1, h.2)) ∙ at_first c end s a h)) in
    ends_there end s a h.3 apart
    (sym past ∙ (sym (same (s.last + 1) from within) ∙ (there ∙ first)))

one_order : (a b : ℕ) → (a < b → ⊥) → (b < a → ⊥) → a ≡ b
one_order a b f g = by_test (nat_lt a b) refl (nat_lt b a) refl
  where
    by_test : (v : Bool) → nat_lt a b ≡ v → (w : Bool) → nat_lt b a ≡ w → a ≡ b
    by_test true e w k = let l : a < b = grind (arith, nat_tests) in absurd (f l)
    by_test false e true k = let l : b < a = grind (arith, nat_tests) in absurd (g l)
    by_test false e false k = grind (arith, nat_tests)

-- what follows the first spans shows the same too
later_same : (c end : ℕ) (s t : Span) (a b : List Span) → IsFromColumn c end (s ∷ a) →
    t.last ≡ s.last →
    ((d : ℕ) → c ≤ d → d < end → group_at (t ∷ b) d ≡ group_at (s ∷ a) d) → (d : ℕ) →
    s.last + 1 ≤ d → d < end → group_at b d ≡ group_at a d
later_same c end s t a b h last same d from within =
    sym (passed t b d (has_not_behind t d (omega (arith, last, from))))
    ∙ (same d (omega (arith, h.0, h.1, from)) within
    ∙ passed s a d (has_not_behind s d (omega (arith, from))))

same_from : (c end : ℕ) (a b : List Span) → IsFromColumn c end a → IsFromColumn c end b →
    AreApart a → AreApart b →
    ((d : ℕ) → c ≤ d → d < end → group_at b d ≡ group_at a d) → b ≡ a
same_from c end [] [] h k p q same = refl
same_from c end (s ∷ a) [] h k p q same =
    let clash : None ≡ Some s.group =
    same s.first h.0 (omega (arith, h.1, h.2)) ∙ at_first c end s a h in
    absurd (cc)
same_from c end [] (t ∷ b) h k p q same =
    let clash : Some t.group ≡ None =
    sym (at_first c end t b k) ∙ same t.first k.0 (omega (arith, k.1, k.2)) in
    absurd (cc)
same_from c end (s ∷ a) (t ∷ b) h k p q same =
    let back = λ (d : ℕ) (from : c ≤ d) (within : d < end). sym (same d from within) in
    let first : t.first ≡ s.first =
    one_order t.first s.first (not_before c end t s b a k h back)
    (not_before c end s t a b h k same) in
    let last : t.last ≡ s.last = one_order t.last s.last
    (not_shorter c end t s b a k h q.0 back (sym first))
    (not_shorter c end s t a b h k p.0 same first) in
    let shown : Some t.group ≡ Some s.group =
    sym (at_first c end t b k)
    ∙ (ap (group_at (t ∷ b)) first
    ∙ (same s.first h.0 (omega (arith, h.1, h.2)) ∙ at_first c end s a h)) in
    let group : t.group ≡ s.group = cc in
    let one : t ≡ s = λ i. record { first = first i; last = last i; group = group i } in
    let more : IsFromColumn (s.last + 1) end b = subst (λ n. IsFromColumn (n + 1) end b) last k.3 in
    let rest : b ≡ a =
    same_from (s.last + 1) end a b h.3 more p.1 q.1 (later_same c end s t a b h last same) in
    ap (λ t. t ∷ b) one ∙ ap (λ b. s ∷ b) rest

apart_of : (spans : List Span) → AreMaximal spans → AreApart spans
apart_of [] m = tt
apart_of (s ∷ []) m = (tt, tt)
apart_of (s ∷ t ∷ spans) m =
    (m zero s t refl refl, apart_of (t ∷ spans) (λ i u v e f. m (suc i) u v e f))

pub no_other_spans_do : NoOtherSpansDo
no_other_spans_do end spans others h k m n same =
    same_from 0 end spans others h k (apart_of spans m) (apart_of others n)
    (λ d from within. same d within)

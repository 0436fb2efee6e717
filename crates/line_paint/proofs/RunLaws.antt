-- A run of characters that show the same.
use Rattle.line_paint.proofs.Common.{◌≡◌, ◌+◌, ◌-◌, ◌<◌, ◌∙◌, ap, sym, refl, arith, ℕ, zero, suc, Bool, true, false, ◌&&◌, nat_eq, List, [], ◌∷◌, Some, None, GroupId, Span, same_group, joined, joined_run, front, span_of}
use Rattle.std.proofs.Common.{◌++◌}
use Rattle.std.proofs.lemmas.Bool.Decides.{nat_tests}
use Rattle.std.proofs.lemmas.List.{append_assoc}

same_as_itself : (n : ℕ) → nat_eq n n ≡ true
same_as_itself n = grind (arith, nat_tests)

second_of_both : (a b : Bool) → (a && b) ≡ true → b ≡ true
second_of_both true b e = e
second_of_both false true e = refl
second_of_both false false e = e

first_of_both : (a b : Bool) → (a && b) ≡ true → a ≡ true
first_of_both true b e = refl
first_of_both false b e = e

number_is : (n m : ℕ) → nat_eq n m ≡ true → n ≡ m
number_is n m e = grind (arith, nat_tests)

same_group_is : (g h : GroupId) → same_group g h ≡ true → g ≡ h
same_group_is g h e =
    let number : g.0 ≡ h.0 = number_is g.0 h.0 e in
    λ j. record { 0 = number j }

-- a span is put in front of another, which goes on with it or doesn't
by_test : (b : Bool) (s t : Span) (spans : List Span) →
    (nat_eq t.first (suc s.last) && same_group t.group s.group) ≡ b →
    front (Some s) (t ∷ spans) ≡ elim b as (λ _. List Span) [
      | true ↦ record t { first = s.first } ∷ spans
      | false ↦ s ∷ t ∷ spans
    ]
by_test b s t spans e = ap (λ (b : Bool). elim b as (λ _. List Span) [
  | true ↦ record t { first = s.first } ∷ spans
  | false ↦ s ∷ t ∷ spans
]) e

goes_on : (a m : ℕ) (g : GroupId) (t : Span) (spans : List Span) → t.first ≡ suc m →
    same_group t.group g ≡ true →
    front (Some (span_of a m g)) (t ∷ spans) ≡ record t { first = a } ∷ spans
goes_on a m g t spans e same = by_test true (span_of a m g) t spans
    (ap (λ (n : ℕ). nat_eq n (suc m) && same_group t.group g) e
    ∙ (ap (λ (b : Bool). b && same_group t.group g) (same_as_itself (suc m)) ∙ same))

-- two spans of a group that meet are one
fronts : (a m l : ℕ) (g : GroupId) (spans : List Span) →
    front (Some (span_of a m g)) (front (Some (span_of (suc m) l g)) spans)
    ≡ front (Some (span_of a l g)) spans
fronts a m l g [] = goes_on a m g (span_of (suc m) l g) [] refl (same_as_itself g.0)
fronts a m l g (t ∷ spans) = either (nat_eq t.first (suc l) && same_group t.group g) refl
  where
    either : (b : Bool) → (nat_eq t.first (suc l) && same_group t.group g) ≡ b →
        front (Some (span_of a m g)) (front (Some (span_of (suc m) l g)) (t ∷ spans))
        ≡ front (Some (span_of a l g)) (t ∷ spans)
    either true e =
        ap (front (Some (span_of a m g))) (by_test true (span_of (suc m) l g) t spans e)
        ∙ (goes_on a m g (record t { first = suc m }) spans refl (second_of_both _ _ e)
        ∙ sym (by_test true (span_of a l g) t spans e))
    either false e =
        ap (front (Some (span_of a m g))) (by_test false (span_of (suc m) l g) t spans e)
        ∙ (goes_on a m g (span_of (suc m) l g) (t ∷ spans) refl (same_as_itself g.0)
        ∙ sym (by_test false (span_of a l g) t spans e))

joined_front : (c : ℕ) (g : GroupId) (spans : List Span) →
    joined c (Some g) spans ≡ front (Some (span_of c c g)) spans
joined_front c g [] = refl
joined_front c g (t ∷ spans) = refl

pub run_of_none : (n c : ℕ) (spans : List Span) → spans ≡ joined_run n c None spans
run_of_none zero c spans = refl
run_of_none (suc n) c spans = run_of_none n (suc c) spans

run_of_some : (n c : ℕ) (g : GroupId) (spans : List Span) →
    joined_run (suc n) c (Some g) spans ≡ front (Some (span_of c (c + n) g)) spans
run_of_some zero c g spans =
    let same : c ≡ c + 0 = omega arith in
    joined_front c g spans ∙ ap (λ (l : ℕ). front (Some (span_of c l g)) spans) same
run_of_some (suc n) c g spans =
    let same : suc c + n ≡ c + suc n = omega arith in
    ap (joined c (Some g)) (run_of_some n (suc c) g spans)
    ∙ (joined_front c g (front (Some (span_of (suc c) (suc c + n) g)) spans)
    ∙ (fronts c c (suc c + n) g spans
    ∙ ap (λ (l : ℕ). front (Some (span_of c l g)) spans) same))

module _ (first end : ℕ) (g : GroupId) (spans : List Span) (some : first < end) where
  abbrev run : Span
  run = span_of first (end - 1) g

  -- it is a span
  pub run_is : front (Some run) spans ≡ joined_run (end - first) first (Some g) spans
  run_is =
      let n = end - first - 1 in
      let count : suc n ≡ end - first = omega (arith, some) in
      let last : end - 1 ≡ first + n = omega (arith, some) in
      ap (λ (l : ℕ). front (Some (span_of first l g)) spans) last
      ∙ (sym (run_of_some n first g spans)
      ∙ ap (λ (m : ℕ). joined_run m first (Some g) spans) count)

  -- with which one before goes on
  pub run_goes_on : (s : Span) → (nat_eq first (suc s.last) && same_group g s.group) ≡ true →
      front (Some (span_of s.first (end - 1) g)) spans
      ≡ front (Some s) (joined_run (end - first) first (Some g) spans)
  run_goes_on s e =
      let meets : first ≡ suc s.last = number_is first (suc s.last) (first_of_both _ _ e) in
      let same : g ≡ s.group = same_group_is g s.group (second_of_both _ _ e) in
      sym (fronts s.first s.last (end - 1) g spans)
      ∙ (ap (λ (n : ℕ). front (Some (span_of s.first s.last g))
      (front (Some (span_of n (end - 1) g)) spans)) (sym meets)
      ∙ (ap (λ (k : GroupId). front (Some (span_of s.first s.last k)) (front (Some run) spans)) same
      ∙ ap (front (Some s)) run_is))

  -- or behind which it stands
  apart : (s : Span) (rest : List Span) →
      (nat_eq first (suc s.last) && same_group g s.group) ≡ false →
      s ∷ front (Some run) rest ≡ front (Some s) (front (Some run) rest)
  apart s [] e = sym (by_test false s run [] e)
  apart s (t ∷ rest) e = either (nat_eq t.first (suc (end - 1)) && same_group t.group g) refl
    where
      either : (b : Bool) → (nat_eq t.first (suc (end - 1)) && same_group t.group g) ≡ b →
          s ∷ front (Some run) (t ∷ rest) ≡ front (Some s) (front (Some run) (t ∷ rest))
      either true f =
          let off : (nat_eq first (suc s.last) && same_group t.group s.group) ≡ false =
          ap (λ (k : GroupId). nat_eq first (suc s.last) && same_group k s.group)
          (same_group_is t.group g (second_of_both _ _ f)) ∙ e in
          ap (λ (l : List Span). s ∷ l) (by_test true run t rest f)
          ∙ (sym (by_test false s (record t { first = first }) rest off)
          ∙ ap (front (Some s)) (sym (by_test true run t rest f)))
      either false f =
          ap (λ (l : List Span). s ∷ l) (by_test false run t rest f)
          ∙ (sym (by_test false s run (t ∷ rest) e)
          ∙ ap (front (Some s)) (sym (by_test false run t rest f)))

  pub run_apart : (whole : List Span) (s : Span) →
      (nat_eq first (suc s.last) && same_group g s.group) ≡ false →
      (whole ++ s ∷ []) ++ front (Some run) spans
      ≡ whole ++ front (Some s) (joined_run (end - first) first (Some g) spans)
  run_apart whole s e =
      append_assoc whole (s ∷ []) (front (Some run) spans)
      ∙ ap (λ (l : List Span). whole ++ l) (apart s spans e ∙ ap (front (Some s)) run_is)

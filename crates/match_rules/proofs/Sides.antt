-- Two texts, one of them some lines further on, and the lines on which they agree.
use Rattle.std.proofs.Common.{◌≡◌, ℕ, zero, suc, ◌+◌, inl, inr, List, [], length, refl, sym, ap, ◌∙◌, arith, subst}
use Rattle.std.specs.Prelude.{Option, Some, None, ℤ, pos, negsuc, ◌+ℤ◌, ◌-ℤ◌, nat_lt, nat_eq, slice_get}
use Rattle.std.specs.Option.{is_some, unwrap_or}
use Rattle.std.proofs.lemmas.Int.{ints}
use Rattle.std.proofs.lemmas.Bool.{lt-ltb, le-ltb}
use Rattle.std.proofs.lemmas.Bool.Decides.{nat_tests}
use Rattle.std.proofs.lemmas.Option.{slice_get_cases, unwrap_or-slice_get}
use Rattle.syn_base.specs.declared.looked.Looked.{Looked}
use Rattle.syn_base.specs.declared.places.Place.{Place}
use Rattle.syn_base.specs.Agreement.{before_first, or_behind, seen_at, AgreeAt, Agree}
use Rattle.match_rules.specs.Ways.{Text, Context, line_at, IsPlaceOf}

-- a context and the text of another; line k of the one is line j of the other where j + back ≡ k + ahead
pub record Two : Type 0 where
  pub x : Context
  pub text : Text
  pub ahead : ℕ
  pub back : ℕ

abbrev pub other : Two → Context
other two = record two.x { text = two.text }

abbrev pub shift : Two → ℤ
shift two = pos two.ahead -ℤ pos two.back

abbrev pub IsLineOf : Two → ℕ → ℕ → Type 0
IsLineOf two k j = j + two.back ≡ k + two.ahead

abbrev pub AgreesOn : Two → ℤ → Type 0
AgreesOn two l = AgreeAt two.x.text two.text (shift two) l

abbrev pub AgreesOver : Two → Looked → Type 0
AgreesOver two looked = Agree two.x.text two.text (shift two) looked

-- a place of the one, and the same place of the other
pub record Moved (two : Two) (p q : Place) : Type 0 where
  pub line : IsLineOf two p.line q.line
  pub col : q.col ≡ p.col
  pub on : IsPlaceOf two.x.text p
  pub there : IsPlaceOf two.text q

-- ---- a line on which they agree

pub record SameLine (two : Two) (k j : ℕ) : Type 0 where
  pub chars : line_at two.text j ≡ line_at two.x.text k
  pub here : nat_lt j (length two.text) ≡ nat_lt k (length two.x.text)

or_behind-same : (a b : Option (List ℕ)) → or_behind a ≡ or_behind b → a ≡ b
or_behind-same (Some c) (Some d) h = cc
or_behind-same None None h = refl
or_behind-same (Some c) None h = absurd (cc)
or_behind-same None (Some d) h = absurd (cc)

or_behind-is : (o : Option (List ℕ)) → or_behind o ≡ before_first → ⊥
or_behind-is (Some c) h = cc
or_behind-is None h = cc

is_there : (text : Text) (l : ℕ) → nat_lt l (length text) ≡ is_some (slice_get text l)
is_there text l =
    elim (slice_get_cases text l).1 [
      | inl h ↦ lt-ltb l (length text) h.1 ∙ sym (ap is_some h.2)
      | inr h ↦ le-ltb l (length text) h.0 ∙ sym (ap is_some h.1)
    ]

same_slice : (two : Two) (k j : ℕ) → slice_get two.text j ≡ slice_get two.x.text k → SameLine two k j
same_slice two k j e = record {
  chars = sym (unwrap_or-slice_get two.text j []) ∙ (ap (λ o. unwrap_or o []) e ∙ unwrap_or-slice_get two.x.text k []);
  here = is_there two.text j ∙ (ap is_some e ∙ sym (is_there two.x.text k));
}

pub same_line : (two : Two) (k j : ℕ) → IsLineOf two k j → AgreesOn two (pos k) → SameLine two k j
same_line two k j m h =
    let e : pos k +ℤ shift two ≡ pos j = omega (arith, ints) in
    same_slice two k j (or_behind-same _ _ (subst (λ l. seen_at two.text l ≡ seen_at two.x.text (pos k)) e h.same))

-- ---- the line before

abbrev pub SameBefore : Two → ℕ → ℕ → Type 0
SameBefore two zero zero = Unit {0}
SameBefore two (suc k) (suc j) = IsLineOf two k j × SameLine two k j
SameBefore two zero (suc j) = ⊥
SameBefore two (suc k) zero = ⊥

pub same_before : (two : Two) (k j : ℕ) → IsLineOf two k j → AgreesOn two (pos k -ℤ pos 1) → SameBefore two k j
same_before two zero zero m h = tt
same_before two (suc k) (suc j) m h =
    let e : pos (suc k) -ℤ pos 1 ≡ pos k = omega (arith, ints) in
    let line : IsLineOf two k j = omega arith in
    (line, same_line two k j line (subst (AgreesOn two) e h))
same_before two zero (suc j) m h =
    let e : (pos 0 -ℤ pos 1) +ℤ shift two ≡ pos j = omega (arith, ints) in
    absurd (or_behind-is (slice_get two.text j) (subst (λ l. seen_at two.text l ≡ before_first) e h.same))
same_before two (suc k) zero m h =
    let e : pos (suc k) -ℤ pos 1 ≡ pos k = omega (arith, ints) in
    let f : pos k +ℤ shift two ≡ negsuc 0 = omega (arith, ints) in
    absurd (or_behind-is (slice_get two.x.text k) (sym (subst (λ l. seen_at two.text l ≡ seen_at two.x.text (pos k)) f (subst (AgreesOn two) e h).same)))

pub first_line : (two : Two) (k j : ℕ) → SameBefore two k j → nat_eq j 0 ≡ nat_eq k 0
first_line two zero zero h = refl
first_line two (suc k) (suc j) h = grind (arith, nat_tests)
first_line two zero (suc j) h = absurd h
first_line two (suc k) zero h = absurd h

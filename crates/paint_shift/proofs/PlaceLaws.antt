-- Places under a shift, and the places that offsets name.
use Rattle.std.proofs.Common.{◌≡◌, ◌<◌, ◌≤◌, ◌+◌, ◌-◌, ℕ, zero, suc, arith, Bool, true, false, refl}
use Rattle.std.proofs.Common.{sym, subst}
use Rattle.std.specs.Prelude.{Option, Some, None, ℤ, ◌+ℤ◌, nat_lt, nat_eq}
use Rattle.std.specs.List.{AllByRecursion}
use Rattle.std.proofs.lemmas.Bool.Decides.{nat_tests}
use Rattle.syn_base.specs.declared.places.Place.{Place}
use Rattle.match_rules.specs.Ways.{is_after, is_same_place}
use Rattle.syntax_set.specs.declared.item.Offset.{Offset}
use Rattle.syntax_set.specs.declared.item.Pattern.{Pattern}
use Rattle.paint_rules.specs.declared.Which.{Which}
use Rattle.paint_rules.specs.declared.Which.TheVariants.{Ms, Me, Hs, He, Rs, Re}
use Rattle.paint_rules.specs.Rules.{Matched, place_at}
use Rattle.paint_rules.specs.Offsets.{offset_place, offset_from, moved_in_line, later_place}
use Rattle.paint_rules.specs.Offsets.{earlier_place}
use Rattle.paint_rules.specs.ItemMatch.{columns, columns_from}
use Rattle.paint_shift.proofs.Shift.{Two, IsMoved, IsMovedLine, SameLine, IsSeenMatch}

pub same_lt : (a b c d : ℕ) → (a < b → c < d) → (c < d → a < b) → nat_lt a b ≡ nat_lt c d
same_lt a b c d h k = grind (arith, nat_tests, h, k)

pub same_eq : (a b c d : ℕ) → (a ≡ b → c ≡ d) → (c ≡ d → a ≡ b) → nat_eq a b ≡ nat_eq c d
same_eq a b c d h k = grind (arith, nat_tests, h, k)

module _ (two : Two) where
  pub line_lt_moved : (k j m n : ℕ) → IsMovedLine two k j → IsMovedLine two m n →
      nat_lt j n ≡ nat_lt k m
  line_lt_moved k j m n h g = same_lt j n k m (λ l. omega (arith, h, g)) (λ l. omega (arith, h, g))

  pub line_eq_moved : (k j m n : ℕ) → IsMovedLine two k j → IsMovedLine two m n →
      nat_eq j n ≡ nat_eq k m
  line_eq_moved k j m n h g = same_eq j n k m (λ l. omega (arith, h, g)) (λ l. omega (arith, h, g))

  pub place_moved : (k j c : ℕ) → IsMovedLine two k j → IsMoved two (place_at k c) (place_at j c)
  place_moved k j c h = record { line = h; col = refl }

  pub after_moved : (p q a b : Place) → IsMoved two p q → IsMoved two a b →
      is_after q b ≡ is_after p a
  after_moved p q a b m n =
      let lt : nat_lt b.line q.line ≡ nat_lt a.line p.line =
      line_lt_moved a.line b.line p.line q.line n.line m.line in
      let eq : nat_eq b.line q.line ≡ nat_eq a.line p.line =
      line_eq_moved a.line b.line p.line q.line n.line m.line in
      rw (lt, eq, m.col, n.col) refl

  pub same_place_moved : (p q a b : Place) → IsMoved two p q → IsMoved two a b →
      is_same_place q b ≡ is_same_place p a
  same_place_moved p q a b m n =
      let eq : nat_eq q.line b.line ≡ nat_eq p.line a.line =
      line_eq_moved p.line q.line a.line b.line m.line n.line in
      rw (eq, m.col, n.col) refl

  either_moved : (v w : Bool) (p q p' q' : Place) → w ≡ v → IsMoved two p q → IsMoved two p' q' →
      IsMoved two (elim v as (λ _. Place) [ true ↦ p | false ↦ p' ])
      (elim w as (λ _. Place) [ true ↦ q | false ↦ q' ])
  either_moved true true p q p' q' e h k = h
  either_moved false false p q p' q' e h k = k
  either_moved true false p q p' q' e h k = absurd (cc)
  either_moved false true p q p' q' e h k = absurd (cc)

  pub later_moved : (p q a b : Place) → IsMoved two p q → IsMoved two a b →
      IsMoved two (later_place p a) (later_place q b)
  later_moved p q a b m n =
      either_moved (is_after p a) (is_after q b) p q a b (after_moved p q a b m n) m n

  pub earlier_moved : (p q a b : Place) → IsMoved two p q → IsMoved two a b →
      IsMoved two (earlier_place p a) (earlier_place q b)
  earlier_moved p q a b m n =
      either_moved (is_after p a) (is_after q b) a b p q (after_moved p q a b m n) n m

  pub in_line_moved : (p q : Place) (by : ℤ) → IsMoved two p q → SameLine two p.line q.line →
      IsMoved two (moved_in_line two.one p by) (moved_in_line two.other q by)
  in_line_moved p q by m s = record { line = m.line; col = rw (s.chars, m.col) refl }

  offset_moved : (m n : Matched) (o : Option Offset) (a b : ℤ) (p q : Place) →
      IsSeenMatch two m n → IsMoved two p q →
      IsMoved two (offset_from two.one m o a b p) (offset_from two.other n o a b q)
  offset_moved m n None a b p q seen h = h
  offset_moved m n (Some o) a b p q seen h =
      either_moved o.from_end o.from_end _ _ _ _ refl
      (in_line_moved m.to n.to (o.by +ℤ b) seen.moved.to seen.to_line)
      (in_line_moved m.from n.from (o.by +ℤ a) seen.moved.from seen.moved.from_line)

  pub offset_place_moved : (m n : Matched) (p : Pattern) (w : Which) → IsSeenMatch two m n →
      IsMoved two (offset_place two.one m p w) (offset_place two.other n p w)
  offset_place_moved m n p Ms h = offset_moved m n p.ms _ _ _ _ h h.moved.from
  offset_place_moved m n p Hs h = offset_moved m n p.hs _ _ _ _ h h.moved.from
  offset_place_moved m n p Me h = offset_moved m n p.me _ _ _ _ h h.moved.to
  offset_place_moved m n p He h = offset_moved m n p.he _ _ _ _ h h.moved.to
  offset_place_moved m n p Rs h = offset_moved m n p.rs _ _ _ _ h h.moved.to
  offset_place_moved m n p Re h = offset_moved m n p.re _ _ _ _ h h.moved.from

columns_within : (c n last : ℕ) → c + n ≤ suc last → AllByRecursion (λ d. d ≤ last) (columns c n)
columns_within c zero last h = tt
columns_within c (suc n) last h = (omega arith, columns_within (suc c) n last (omega arith))

-- the columns of a line lie within it
pub columns_on : (first last : ℕ) → AllByRecursion (λ d. d ≤ last) (columns_from first last)
columns_on first last = by_first (nat_lt last first) refl
  where
    by_first : (b : Bool) → nat_lt last first ≡ b →
        AllByRecursion (λ d. d ≤ last) (columns_from first last)
    by_first true e =
        let none : suc last - first ≡ 0 = grind (arith, nat_tests) in
        subst (λ n. AllByRecursion (λ d. d ≤ last) (columns first n)) (sym none) tt
    by_first false e = columns_within first (suc last - first) last (grind (arith, nat_tests))

-- The match of an item at a place is alike in two texts.
use Rattle.std.proofs.Common.{◌≡◌, ◌≤◌, ◌-◌, ℕ, arith, Bool, true, false, List, length, refl, sym}
use Rattle.std.proofs.Common.{ap, ◌∙◌, subst}
use Rattle.std.specs.Prelude.{Option, Some, None, ℤ, ◌+ℤ◌, nat_lt, nat_eq, ◌&&◌, ◌||◌}
use Rattle.std.proofs.lemmas.Bool.Decides.{nat_tests}
use Rattle.syn_base.specs.declared.places.Place.{Place}
use Rattle.match_rules.specs.Ways.{line_at}
use Rattle.match_rules.specs.Ways.{is_same_place}
use Rattle.syn_base.specs.declared.places.ItemId.{ItemId}
use Rattle.syntax_set.specs.declared.item.Offset.{Offset}
use Rattle.syntax_set.specs.declared.item.Pattern.{Pattern}
use Rattle.paint_rules.specs.Painted.{Painted, Done, Refused}
use Rattle.paint_rules.specs.Rules.{Matched, Attempt, Cause, TooCostly, item_of, within_budget}
use Rattle.paint_rules.specs.Rules.{attempted, no_externals, place_at}
use Rattle.paint_rules.specs.Offsets.{offset_from, moved_in_line}
use Rattle.paint_rules.specs.ItemMatch.{columns_from, may_start, starts_at, looks_at_end}
use Rattle.paint_rules.specs.ItemMatch.{match_from, item_match}
use Rattle.paint_shift.proofs.Shift.{Two, IsMoved, Agrees, Follows, Alike, SameLine, OnBoth}
use Rattle.paint_shift.proofs.Shift.{IsPresent, IsMovedMatch, IsSeenMatch, IsMovedAttempt}
use Rattle.paint_shift.proofs.Shift.{AttemptsAreLocal}
use Rattle.paint_shift.proofs.AlikeLaws.{bind_alike, done_alike, by_test, first_found_alike}
use Rattle.paint_shift.proofs.AlikeLaws.{looks_alike}
use Rattle.paint_shift.proofs.PlaceLaws.{place_moved, same_place_moved, line_eq_moved}
use Rattle.paint_shift.proofs.PlaceLaws.{in_line_moved, columns_on}

module _ (two : Two) (local : AttemptsAreLocal two) where
  by_cost : (i : ItemId) (budget : ℕ) (a b : Attempt) →
      (Agrees two a.looked → IsMovedAttempt two a b) → (v : Bool) → nat_lt budget a.cost ≡ v →
      Follows two (OnBoth (IsMovedMatch two))
      (elim v as (λ _. Painted Cause (Option Matched))
      [ true ↦ Refused (TooCostly i) (Some a.looked) | false ↦ Done a.found (Some a.looked) ])
      (within_budget i budget b)
  by_cost i budget a b h true e = λ ok.
      let m = h ok in
      let f : nat_lt budget b.cost ≡ true = ap (nat_lt budget) m.cost ∙ e in
      rw (within_budget, f, m.looked) refl
  by_cost i budget a b h false e = λ ok.
      let m = h ok in
      let f : nat_lt budget b.cost ≡ false = ap (nat_lt budget) m.cost ∙ e in
      (b.found, rw (within_budget, f, m.looked) refl, m.found)

  pub attempted_alike : (i : ItemId) (externals : List (List ℕ)) (pattern : Pattern)
      (p q : Place) → IsPresent two p.line q.line → p.col ≤ length (line_at two.one p.line) →
      IsMoved two p q →
      Alike two (OnBoth (IsMovedMatch two)) (attempted two.rules two.one i externals pattern p)
      (attempted two.rules two.other i externals pattern q)
  attempted_alike i externals pattern p q h within m = record {
    follows = by_cost i two.rules.budget _ _
        (λ ok. local pattern.tree (item_of two.rules.items i).ignore externals p q h within m ok)
        (nat_lt two.rules.budget
        (two.rules.attempt two.one pattern.tree
        (item_of two.rules.items i).ignore externals p).cost) refl;
  }

  pub end_alike : (o r : Option Matched) → OnBoth (IsMovedMatch two) o r →
      Alike two (OnBoth (IsSeenMatch two)) (looks_at_end o) (looks_at_end r)
  end_alike None None h = done_alike two (OnBoth (IsSeenMatch two)) None None tt
  end_alike (Some m) (Some n) h =
      bind_alike two (looks_alike two m.to.line n.to.line h.to.line)
      (λ _ _ s. done_alike two (OnBoth (IsSeenMatch two)) (Some m) (Some n)
      (record { moved = h; to_line = s }))
  end_alike None (Some n) h = absurd h
  end_alike (Some m) None h = absurd h

  may_start_moved : (pattern : Pattern) (p q a b : Place) → IsMoved two p q → IsMoved two a b →
      SameLine two a.line b.line → may_start two.other pattern q b ≡ may_start two.one pattern p a
  may_start_moved pattern p q a b m n s = ap (λ v. pattern.tree.moves_start || v) (by_ms pattern.ms)
    where
      by_ms : (o : Option Offset) →
          elim o as (λ _. Bool) [
            | None ↦ is_same_place b q
            | Some o ↦ o.from_end || is_same_place
                (moved_in_line two.other b o.by) q
          ]
          ≡ elim o as (λ _. Bool) [
            | None ↦ is_same_place a p
            | Some o ↦ o.from_end || is_same_place
                (moved_in_line two.one a o.by) p
          ]
      by_ms None = same_place_moved two a b p q n m
      by_ms (Some o) =
          ap (λ v. o.from_end || v)
          (same_place_moved two _ _ p q (in_line_moved two a b o.by n s) m)

  -- a column counted in a line is that of a place only in the place's own line, so no other line's
  -- length matters
  in_line_here : (a b p q : Place) (by : ℤ) → IsMoved two a b → IsMoved two p q →
      SameLine two p.line q.line → (v : Bool) → nat_eq a.line p.line ≡ v →
      is_same_place (moved_in_line two.other b by) q ≡ is_same_place (moved_in_line two.one a by) p
  in_line_here a b p q by m n s true e =
      let f : p.line ≡ a.line = grind (arith, nat_tests) in
      let g : q.line ≡ b.line = omega (arith, m.line, n.line) in
      let t : SameLine two a.line b.line =
      subst (λ k. SameLine two k b.line) f (subst (λ j. SameLine two p.line j) g s) in
      same_place_moved two _ _ p q (in_line_moved two a b by m t) n
  in_line_here a b p q by m n s false e =
      let f : nat_eq b.line q.line ≡ false =
      line_eq_moved two a.line b.line p.line q.line m.line n.line ∙ e in
      ap (λ v. v && nat_eq (moved_in_line two.other b by).col q.col) f
      ∙ sym (ap (λ v. v && nat_eq (moved_in_line two.one a by).col p.col) e)

  start_moved : (o : Option Offset) (x y : ℤ) (p q : Place) (a b : Matched) → IsMoved two p q →
      SameLine two p.line q.line → IsMovedMatch two a b →
      is_same_place (offset_from two.other b o x y b.from) q
      ≡ is_same_place (offset_from two.one a o x y a.from) p
  start_moved None x y p q a b m s h = same_place_moved two _ _ p q h.from m
  start_moved (Some o) x y p q a b m s h = by_end o.from_end
    where
      by_end : (v : Bool) →
          is_same_place
          (elim v as (λ _. Place) [
            | true ↦ moved_in_line two.other b.to
                (o.by +ℤ y)
            | false ↦ moved_in_line two.other b.from (o.by +ℤ x)
          ]) q
          ≡ is_same_place
          (elim v as (λ _. Place) [
            | true ↦ moved_in_line two.one a.to (o.by +ℤ y)
            | false ↦ moved_in_line two.one a.from
                (o.by +ℤ x)
          ]) p
      by_end true = in_line_here a.to b.to p q _ h.to m s (nat_eq (a.to).line p.line) refl
      by_end false = in_line_here a.from b.from p q _ h.from m s (nat_eq (a.from).line p.line) refl

  starts_moved : (pattern : Pattern) (p q : Place) → IsMoved two p q → SameLine two p.line q.line →
      (o r : Option Matched) → OnBoth (IsMovedMatch two) o r →
      starts_at two.other pattern q r ≡ starts_at two.one pattern p o
  starts_moved pattern p q m s None None h = refl
  starts_moved pattern p q m s (Some a) (Some b) h = start_moved pattern.ms _ _ p q a b m s h
  starts_moved pattern p q m s None (Some b) h = absurd h
  starts_moved pattern p q m s (Some a) None h = absurd h

  match_from_alike : (i : ItemId) (pattern : Pattern) (p q : Place) (c : ℕ) → IsMoved two p q →
      IsPresent two p.line q.line → c ≤ length (line_at two.one p.line) →
      Alike two (OnBoth (IsSeenMatch two)) (match_from two.rules two.one i pattern p c)
      (match_from two.rules two.other i pattern q c)
  match_from_alike i pattern p q c m h within =
      let n : IsMoved two (place_at p.line c) (place_at q.line c) =
      place_moved two p.line q.line c m.line in
      by_test two (may_start two.one pattern p (place_at p.line c))
      (may_start two.other pattern q (place_at q.line c))
      (may_start_moved pattern p q (place_at p.line c) (place_at q.line c) m n h.same)
      (λ _. bind_alike two
      (attempted_alike i no_externals pattern (place_at p.line c) (place_at q.line c) h within n)
      (λ o r both. by_test two (starts_at two.one pattern p o) (starts_at two.other pattern q r)
      (starts_moved pattern p q m h.same o r both)
      (λ _. end_alike o r both)
      (λ _. done_alike two (OnBoth (IsSeenMatch two)) None None tt)))
      (λ _. done_alike two (OnBoth (IsSeenMatch two)) None None tt)

  -- the match of an item at a place
  pub item_match_alike : (i : ItemId) (pattern : Pattern) (p q : Place) (floor : ℕ) →
      IsMoved two p q → IsPresent two p.line q.line →
      Alike two (OnBoth (IsSeenMatch two)) (item_match two.rules two.one i pattern p floor)
      (item_match two.rules two.other i pattern q floor)
  item_match_alike i pattern p q floor m h =
      let last = length (line_at two.one p.line) in
      rw h.same.chars
      (first_found_alike two (IsSeenMatch two) (λ c. c ≤ last)
      (match_from two.rules two.one i pattern p) (match_from two.rules two.other i pattern q)
      (columns_from (floor - pattern.lc) last) (columns_on (floor - pattern.lc) last)
      (λ c within. match_from_alike i pattern p q c m h within))

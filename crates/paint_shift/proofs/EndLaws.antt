-- The end of a region in a line is alike in two texts.
use Rattle.std.proofs.Common.{◌≡◌, inl, inr, ◌<◌, ◌≤◌, ◌-◌, ℕ, suc, arith, Bool, true, false, List}
use Rattle.std.proofs.Common.{[], ◌∷◌, length, refl, sym, ap, ◌∙◌, subst}
use Rattle.std.specs.Prelude.{Option, Some, None, nat_lt, reverse}
use Rattle.std.specs.Option.{option_map}
use Rattle.std.specs.List.{AllByRecursion}
use Rattle.std.proofs.lemmas.Bool.Decides.{nat_tests}
use Rattle.syn_base.specs.declared.places.Place.{Place}
use Rattle.match_rules.specs.Ways.{line_at}
use Rattle.syn_base.specs.declared.places.GroupId.{GroupId}
use Rattle.syn_base.specs.declared.places.ItemId.{ItemId}
use Rattle.syntax_set.specs.declared.item.ItemKind.{ItemKind}
use Rattle.syntax_set.specs.declared.item.Pattern.{Pattern}
use Rattle.paint_rules.specs.declared.Which.TheVariants.{Me, He, Re}
use Rattle.paint_rules.specs.Painted.{Painted, done, ◌>>=◌, first_found}
use Rattle.paint_rules.specs.Rules.{Matched, Cause, item_of, place_at}
use Rattle.paint_rules.specs.Offsets.{offset_place, later_place}
use Rattle.paint_rules.specs.ItemMatch.{columns_from}
use Rattle.paint_rules.specs.declared.RegionEnd.{RegionEnd}
use Rattle.paint_rules.specs.EndInLine.{Search, Skip, NoSkip, SkipTo, SkipLine, skip_of, ends_of}
use Rattle.paint_rules.specs.EndInLine.{tried_at, end_made, end_at, skip_to, skip_at, end_from}
use Rattle.paint_rules.specs.EndInLine.{end_in_present, end_in_line}
use Rattle.paint_shift.proofs.Shift.{Two, IsMoved, Alike, SameLine, OnBoth, IsPresent, IsSeenMatch}
use Rattle.paint_shift.proofs.Shift.{IsMovedEnd, AttemptsAreLocal, search_one, search_other}
use Rattle.paint_shift.proofs.AlikeLaws.{bind_alike, bind_same, done_alike, by_test, by_option}
use Rattle.paint_shift.proofs.AlikeLaws.{first_found_alike, looks_alike}
use Rattle.paint_shift.proofs.PlaceLaws.{place_moved, after_moved, later_moved, earlier_moved}
use Rattle.paint_shift.proofs.PlaceLaws.{offset_place_moved, columns_on}
use Rattle.paint_shift.proofs.MatchLaws.{attempted_alike, end_alike}

pub Each-true : {A : Type 0} (xs : List A) → AllByRecursion (λ _. Unit {0}) xs
Each-true [] = tt
Each-true (x ∷ xs) = (tt, Each-true xs)

module _ (two : Two) (local : AttemptsAreLocal two) (i : ItemId) (externals : List (List ℕ))
    (p q : Place) (m : IsMoved two p q) where
  one : Search
  one = search_one two i externals p

  made_moved : (pattern : Pattern) (a b : Matched) → IsSeenMatch two a b →
      IsMovedEnd two (end_made (search_one two i externals p) pattern a)
      (end_made (search_other two i externals q) pattern b)
  made_moved pattern a b h = by_group pattern.matchgroup
    where
      e : IsMoved two (later_place (offset_place two.one a pattern Me) p)
          (later_place (offset_place two.other b pattern Me) q)
      e = later_moved two _ _ _ _ (offset_place_moved two a b pattern Me h) m

      by_group : (g : Option GroupId) →
          IsMovedEnd two
          (end_made (search_one two i externals p) (record pattern { matchgroup = g }) a)
          (end_made (search_other two i externals q) (record pattern { matchgroup = g }) b)
      by_group None =
          record {
            end = e;
            high_to =
                earlier_moved two _ _ _ _ (offset_place_moved two a b pattern He h) e;
            area_end = tt;
            area_high = tt;
            area_shows = refl;
          }
      by_group (Some g) =
          let begin = earlier_moved two _ _ _ _
          (later_moved two _ _ _ _ (offset_place_moved two a b pattern Re h) m) e in
          record {
            end = begin;
            high_to = begin;
            area_end = e;
            area_high =
                earlier_moved two _ _ _ _ (offset_place_moved two a b pattern He h) e;
            area_shows =
                refl;
          }

  tried_alike : (pattern : Pattern) (c : ℕ) → IsPresent two p.line q.line →
      c ≤ length (line_at two.one p.line) →
      Alike two (OnBoth (IsSeenMatch two)) (tried_at (search_one two i externals p) pattern c)
      (tried_at (search_other two i externals q) pattern c)
  tried_alike pattern c h within =
      by_test two (nat_lt c pattern.lc) (nat_lt c pattern.lc) refl
      (λ _. done_alike two (OnBoth (IsSeenMatch two)) None None tt)
      (λ _. bind_alike two
      (attempted_alike two local i externals pattern (place_at p.line (c - pattern.lc))
      (place_at q.line (c - pattern.lc))
      h (omega (arith, within))
      (place_moved two p.line q.line (c - pattern.lc) m.line))
      (λ o r both. end_alike two local o r both))

  mapped : (pattern : Pattern) (o r : Option Matched) → OnBoth (IsSeenMatch two) o r →
      OnBoth (IsMovedEnd two) (option_map (end_made (search_one two i externals p) pattern) o)
      (option_map (end_made (search_other two i externals q) pattern) r)
  mapped pattern None None h = tt
  mapped pattern (Some a) (Some b) h = made_moved pattern a b h
  mapped pattern None (Some b) h = absurd h
  mapped pattern (Some a) None h = absurd h

  end_at_alike : (pattern : Pattern) (c : ℕ) → IsPresent two p.line q.line →
      c ≤ length (line_at two.one p.line) →
      Alike two (OnBoth (IsMovedEnd two)) (end_at (search_one two i externals p) c pattern)
      (end_at (search_other two i externals q) c pattern)
  end_at_alike pattern c h within =
      bind_alike two (tried_alike pattern c h within)
      (λ o r both. done_alike two (OnBoth (IsMovedEnd two)) _ _ (mapped pattern o r both))

  abbrev skip_by : ℕ → Bool → Bool → ℕ → Skip
  skip_by c v x n =
      elim v [ false ↦ SkipTo (suc c) | true ↦ elim x [ true ↦ SkipTo n | false ↦ SkipLine ] ]

  by_bools : (c n k : ℕ) (v w x y : Bool) → w ≡ v → y ≡ x → k ≡ n →
      skip_by c w y k ≡ skip_by c v x n
  by_bools c n k v w x y e f g =
      ap (λ w. skip_by c w y k) e ∙ (ap (λ y. skip_by c v y k) f ∙ ap (λ k. skip_by c v x k) g)

  skip_to_same : (c : ℕ) (a b : Place) → IsMoved two a b → SameLine two p.line q.line →
      skip_to (search_other two i externals q) c b ≡ skip_to (search_one two i externals p) c a
  skip_to_same c a b n s =
      by_bools c a.col b.col _ _ _ _
      (after_moved two a b _ _ n (place_moved two p.line q.line c m.line))
      (after_moved two (place_at p.line (length (line_at two.one p.line)))
      (place_at q.line (length (line_at two.other q.line))) a b
      (record { line = m.line; col = rw s.chars refl }) n) n.col

  skip_alike : (o : Option Pattern) (c : ℕ) → IsPresent two p.line q.line →
      c ≤ length (line_at two.one p.line) →
      Alike two (λ s t. t ≡ s) (skip_at (search_one two i externals p) o c)
      (skip_at (search_other two i externals q) o c)
  skip_alike None c h within = done_alike two (λ s t. t ≡ s) NoSkip NoSkip refl
  skip_alike (Some pattern) c h within =
      bind_alike two (tried_alike pattern c h within)
      (λ o r both. by_option two {S = λ s t. t ≡ s} o r both
      (done_alike two (λ s t. t ≡ s) NoSkip NoSkip refl)
      (λ a b k. done_alike two (λ s t. t ≡ s) _ _
      (skip_to_same c _ _ (offset_place_moved two a b pattern Me k) h.same)))

  end_from_alike : (kind : ItemKind) (cs : List ℕ) (on : ℕ) → IsPresent two p.line q.line →
      AllByRecursion (λ c. c ≤ length (line_at two.one p.line)) cs →
      Alike two (OnBoth (IsMovedEnd two)) (end_from (search_one two i externals p) kind cs on)
      (end_from (search_other two i externals q) kind cs on)
  end_from_alike kind [] on h all = done_alike two (OnBoth (IsMovedEnd two)) None None tt
  end_from_alike kind (c ∷ cs) on h all =
      by_test two (nat_lt c on) (nat_lt c on) refl
      (λ _. end_from_alike kind cs on h all.1)
      (λ _. bind_same two (skip_alike (skip_of kind) c h all.0)
      (λ skip. by_skip skip (λ next. end_from_alike kind cs next h all.1)))
    where
      by_skip : (skip : Skip) →
          ((next : ℕ) →
          Alike two (OnBoth (IsMovedEnd two))
          (end_from (search_one two i externals p) kind cs next)
          (end_from (search_other two i externals q) kind cs next)) →
          Alike two (OnBoth (IsMovedEnd two))
          (elim skip as (λ _. Painted Cause (Option RegionEnd)) [
            | NoSkip ↦ first_found (end_at (search_one two i externals p) c)
                (reverse (ends_of kind)) >>=
                (λ found. elim found as (λ _. Painted Cause (Option RegionEnd)) [
                  | None ↦ end_from (search_one two i externals p) kind cs (suc c)
                  | Some e ↦ done
                      (Some e)
                ])
            | SkipTo next ↦ end_from
                (search_one two i externals p) kind cs next
            | SkipLine ↦ done None
          ])
          (elim skip as (λ _. Painted Cause (Option RegionEnd)) [
            | NoSkip ↦ first_found (end_at (search_other two i externals q) c)
                (reverse (ends_of kind)) >>=
                (λ found. elim found as (λ _. Painted Cause (Option RegionEnd)) [
                  | None ↦ end_from (search_other two i externals q) kind cs (suc c)
                  | Some e ↦ done
                      (Some e)
                ])
            | SkipTo next ↦ end_from
                (search_other two i externals q) kind cs next
            | SkipLine ↦ done None
          ])
      by_skip (SkipTo next) later = later next
      by_skip SkipLine later = done_alike two (OnBoth (IsMovedEnd two)) None None tt
      by_skip NoSkip later =
          bind_alike two
          (first_found_alike two (IsMovedEnd two) (λ _. Unit {0})
          (end_at (search_one two i externals p) c) (end_at (search_other two i externals q) c)
          (reverse (ends_of kind)) (Each-true (reverse (ends_of kind)))
          (λ pattern _. end_at_alike pattern c h all.0))
          (λ o r both. by_option two {S = OnBoth (IsMovedEnd two)} o r both (later (suc c))
          (λ a b k. done_alike two (OnBoth (IsMovedEnd two)) (Some a) (Some b) k))

  by_present : (v : Bool) → SameLine two p.line q.line → nat_lt p.line (length two.one) ≡ v →
      Alike two (OnBoth (IsMovedEnd two)) (end_in_present (search_one two i externals p) v)
      (end_in_present (search_other two i externals q) v)
  by_present false s e = done_alike two (OnBoth (IsMovedEnd two)) None None tt
  by_present true s e =
      let on : p.line < length two.one = grind (arith, nat_tests) in
      let there : q.line < length two.other =
      elim s.here [ inl r ↦ r.1 | inr r ↦ absurd (omega (arith, r.0)) ] in
      let h : IsPresent two p.line q.line = record { same = s; on = on; there = there } in
      let kind = (item_of two.rules.items i).kind in
      let cols = columns_from p.col (length (line_at two.one p.line)) in
      let e : columns_from q.col (length (line_at two.other q.line)) ≡ cols =
      rw (s.chars, m.col) refl in
      subst (λ cs. Alike two (OnBoth (IsMovedEnd two))
      (end_from (search_one two i externals p) kind cols p.col)
      (end_from (search_other two i externals q) kind cs q.col)) (sym e)
      (subst (λ n. Alike two (OnBoth (IsMovedEnd two))
      (end_from (search_one two i externals p) kind cols p.col)
      (end_from (search_other two i externals q) kind cols n)) (sym m.col)
      (end_from_alike kind cols p.col h (columns_on p.col (length (line_at two.one p.line)))))

  present_same : SameLine two p.line q.line →
      nat_lt q.line (length two.other) ≡ nat_lt p.line (length two.one)
  present_same s =
      elim s.here [
        | inl r ↦ grind (arith, nat_tests, r.0, r.1)
        | inr r ↦ grind
            (arith, nat_tests, r.0, r.1)
      ]

  after_look : SameLine two p.line q.line →
      Alike two (OnBoth (IsMovedEnd two))
      (end_in_present (search_one two i externals p) (nat_lt p.line (length two.one)))
      (end_in_present (search_other two i externals q) (nat_lt q.line (length two.other)))
  after_look s = rw (present_same s) (by_present (nat_lt p.line (length two.one)) s refl)

  -- the end of a region in the line of a place
  pub end_in_line_alike : Alike two (OnBoth (IsMovedEnd two))
      (end_in_line (search_one two i externals p)) (end_in_line (search_other two i externals q))
  end_in_line_alike = bind_alike two (looks_alike two p.line q.line m.line) (λ _ _ s. after_look s)

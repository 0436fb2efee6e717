-- The search goes on behind columns where neither the skip nor an end can fit.
use Rattle.region_ends.proofs.Common.{◌≡◌, inl, inr, ◌∙◌, refl, sym, ap, subst, arith, ℕ, zero, suc, ◌+◌, ◌-◌, ◌<◌, ◌≤◌, Bool, true, false, List, [], ◌∷◌, length, Option, Some, None, pos, nat_eq, nat_lt, not, ◌&&◌, reverse, slice_get, if◌then◌else◌, All, list_all, nat_tests, All-head, All-tail, AllPass-from_list_all, Looked, one_line, attempt, ignores_case, Context, Text, match_of, IsInVain, Region, Pattern, Painted, Done, looked_first, done, first_found, Cause, item_of, place_at, context_of, Search, Skip, NoSkip, skip_at, tried_at, end_at, offset_place, Me, Walk, IsToldOf, begins_with, first_of, is_unopened, IsPassedOver, IsWalk, are_shut, is_end_shut, is_shut_at, question_of, search_in, HoldsLine, left_from, is_some, has_keyword, skip_to, goes_on, IsOfRegion, Question, are_shut_anyway, are_shut_by, is_cheap, is_shut, is_skip_shut}
use Rattle.paint_rules.specs.Syntax.{attempt_by}
use Rattle.std.specs.Option.{option_map}
use Rattle.pattern_match.specs.declared.answer.Attempt.TheVariants as tried
use Rattle.pattern_screens.specs.Bounds.{failing_cost}
use Rattle.pattern_screens.specs.declared.key.Key.{Key}
use Rattle.pattern_screens.specs.declared.key.Last.{Last}
use Rattle.pattern_screens.specs.declared.key.Last.TheVariants as lasts
use Rattle.pattern_screens.specs.declared.key.Next.{Next}
use Rattle.pattern_screens.specs.declared.key.Next.TheVariants as nexts
use Rattle.pattern_screens.specs.Keys.{key_numbered, key_of, last_in, next_of, other_of}
use Rattle.pattern_screens.specs.Screens.{is_futile}
use Rattle.pattern_screens.proofs.Screened.{law as futile}
use Rattle.std.proofs.lemmas.Bool.{and_parts, or_cases}
use Rattle.region_ends.proofs.CommonLaws.{all_reverse}
use Rattle.region_ends.proofs.OpeningLaws.{attempt_fails, begins_here, differs, told_differs}
use Rattle.region_ends.proofs.SearchLaws.{after_try, first_end, tried_at_is, to_later}

-- ---- a column at which nothing can fit

within_budget : (budget cost : ℕ) → not (nat_lt budget cost) ≡ true → cost ≤ budget
within_budget budget cost e = grind (arith, nat_tests)

some_of : (o : Option ℕ) → is_some o ≡ true → (n : ℕ) × (o ≡ Some n)
some_of None e = absurd (cc)
some_of (Some n) e = (n, refl)

module _ (a : Walk) (text : Text) (of : IsWalk a text) (k : Looked) (held : HoldsLine k a.search.from.line) (c : ℕ) (within : c ≤ length a.line.now) where
  abbrev s : Search
  s = search_in a.search text

  abbrev key : Key
  key = key_of a.search.matcher.sets.now a.line.now c

  abbrev x : Context
  x = context_of a.search.matcher.sets.now text (item_of a.search.items.now a.search.region).ignore a.search.externals.now

  -- it gives nothing at the column, and looks at no line that wasn't looked at before
  abbrev GivesNothing : Pattern → Type 0
  GivesNothing pattern = looked_first (Some k) (tried_at s pattern c) ≡ Done None (Some k)

  in_vain : (pattern : Pattern) (bound : ℕ) → pattern.lc ≡ 0 → bound ≤ a.search.matcher.budget →
      IsInVain (place_at a.search.from.line c) bound false (attempt pattern.tree x (place_at a.search.from.line c)) → GivesNothing pattern
  unfolding attempt_by
  in_vain pattern bound here enough vain =
      let at : c ≡ c - pattern.lc = omega (arith, here) in
      let fail = subst (λ n. IsInVain (place_at a.search.from.line n) bound false (attempt pattern.tree x (place_at a.search.from.line n))) at vain in
      tried_at_is s pattern c k (tried.Absent (one_line (pos a.search.from.line))) (omega (arith, here))
      (omega (arith, fail.cost, enough), ap (option_map (match_of text (place_at a.search.from.line (c - pattern.lc)))) fail.way, fail.looked)
      ∙ ap (λ (j : Looked). Done None (Some j)) held

  shut_gives : (pattern : Pattern) → is_shut (question_of a) key pattern ≡ true → GivesNothing pattern
  shut_gives pattern e =
      let h = and_parts (nat_eq pattern.lc 0) (is_futile a.search.matcher.sets.now a.ignore key pattern.tree && is_cheap a.search.matcher.budget pattern) e in
      let shut = and_parts (is_futile a.search.matcher.sets.now a.ignore key pattern.tree) (is_cheap a.search.matcher.budget pattern) h.1 in
      in_vain pattern (failing_cost pattern.tree) (grind (arith, nat_tests, h.0)) (within_budget a.search.matcher.budget (failing_cost pattern.tree) shut.1)
      (futile pattern.tree x a.search.from.line c (omega (arith, within, ap length of.line))
      (sym (λ i. is_futile a.search.matcher.sets.now (of.of.ignore i) (key_of a.search.matcher.sets.now (of.line i) c) pattern.tree) ∙ shut.0))

  skip_gives : (o : Option Pattern) → is_skip_shut (question_of a) key o ≡ true → looked_first (Some k) (skip_at s o c) ≡ Done NoSkip (Some k)
  skip_gives None e = refl
  skip_gives (Some pattern) e =
      goes_on k k (tried_at s pattern c) None
      (λ m. elim m as (λ _. Painted Cause Skip) [ None ↦ done NoSkip | Some m ↦ done (skip_to s c (offset_place text m pattern Me)) ])
      (shut_gives pattern e)

  end_gives : is_unopened a.opening (slice_get a.line.now c) ≡ true → (pattern : Pattern) → IsToldOf a.search.externals.now a.ignore a.opening pattern →
      is_end_shut (question_of a) key pattern ≡ true → GivesNothing pattern
  end_gives unopened pattern told e = elim (or_cases (is_some (begins_with pattern)) _ e) [
    | inl some ↦ (let number = some_of (begins_with pattern) some in
        let here = begins_here pattern number.0 number.1 in
        in_vain pattern 1 here.0 of.may.budget
        (attempt_fails pattern.tree x (place_at a.search.from.line c) number.0 here.1
        (sym (λ i. differs (first_of a.search.externals.now number.0) (ignores_case pattern.tree (of.of.ignore i)) (slice_get (of.line i) c))
        ∙ told_differs a.search.externals.now a.ignore pattern (slice_get a.line.now c) a.opening number.0 number.1 told unopened)))
    | inr shut ↦ shut_gives pattern shut
  ]

  ends_give : (ps : List Pattern) → All GivesNothing ps → looked_first (Some k) (first_found (end_at s c) ps) ≡ Done None (Some k)
  ends_give [] h = refl
  ends_give (p ∷ ps) h = first_end s c k p ps ∙ (ap (after_try s p ps c) (All-head GivesNothing p ps h) ∙ ends_give ps (All-tail GivesNothing p ps h))

  column_passed : IsPassedOver a c → left_from a text k c ≡ left_from a text k (suc c)
  column_passed passed =
      let h = and_parts (is_skip_shut (question_of a) key a.skip.now) (list_all (is_end_shut (question_of a) key) a.ends.now) passed.shut in
      let shut = AllPass-from_list_all (is_end_shut (question_of a) key) a.ends.now h.1 in
      to_later s (Region [] a.skip.now a.ends.now) c (length a.line.now) k within k (skip_gives a.skip.now h.0) k
      (ends_give (reverse a.ends.now) (all_reverse GivesNothing a.ends.now (λ i d below. end_gives passed.unopened _ (of.opening i d below) (shut i d below))))

-- ---- columns

module _ (a : Walk) (text : Text) (of : IsWalk a text) (k : Looked) (held : HoldsLine k a.search.from.line) where
  pass : (count c next : ℕ) → next ≡ c + count → next ≤ suc (length a.line.now) → ((j : ℕ) → c ≤ j → j < next → IsPassedOver a j) → left_from a text k c ≡ left_from a text k next
  pass zero c next e within passed = ap (left_from a text k) (omega arith)
  pass (suc count) c next e within passed =
      let less : c < next = omega arith in
      column_passed a text of k held c (omega arith) (passed c (omega arith) less)
      ∙ pass count (suc c) next (omega arith) within (λ j from below. passed j (omega (arith, from)) below)

  pub columns_passed : (c next : ℕ) → c ≤ next → next ≤ suc (length a.line.now) → ((j : ℕ) → c ≤ j → j < next → IsPassedOver a j) → left_from a text k c ≡ left_from a text k next
  columns_passed c next from within passed = pass (next - c) c next (omega (arith, from)) within passed

-- ---- what is kept, by a number

module _ (q : Question) where
  abbrev by : ℕ → Bool → Bool
  by number b = if b then are_shut q (key_numbered number) else are_shut_anyway q (nexts.Code (number - 777))

  -- the numbers of keys
  pub by_key : (number : ℕ) → number < 777 → are_shut_by q number ≡ are_shut q (key_numbered number)
  by_key number below = let less : nat_lt number 777 ≡ true = grind (arith, nat_tests, below) in ap (by number) less

  -- behind them stand those of characters
  pub by_code : (number : ℕ) → 777 ≤ number → are_shut_by q number ≡ are_shut_anyway q (nexts.Code (number - 777))
  by_code number above = let more : nat_lt number 777 ≡ false = grind (arith, nat_tests, above) in ap (by number) more

  -- what stands before doesn't matter
  after_any : (next : Next) (last : Last) → are_shut_anyway q next ≡ true → are_shut q (record { next = next; last = last }) ≡ true
  after_any next last e =
      let shut : Last → Bool = λ l. are_shut q (record { next = next; last = l }) in
      let h = and_parts (shut lasts.Nothing) (shut lasts.Keyword && shut lasts.Other) e in
      let g = and_parts (shut lasts.Keyword) (shut lasts.Other) h.1 in
      elim last as (λ l. shut l ≡ true) [
        | lasts.Nothing ↦ h.0
        | lasts.Keyword ↦ g.0
        | lasts.Other ↦ g.1
      ]

  pub at_code : (line : List ℕ) (c code : ℕ) → slice_get line c ≡ Some code → code < 256 → are_shut_by q (777 + code) ≡ true → are_shut q (key_of q.sets line c) ≡ true
  at_code line c code there below e =
      let small : nat_lt code 256 ≡ true = grind (arith, nat_tests, below) in
      let same : 777 + code - 777 ≡ code = omega arith in
      let shut : are_shut_anyway q (nexts.Code code) ≡ true = ap (λ (n : ℕ). are_shut_anyway q (nexts.Code n)) (sym same) ∙ (sym (by_code (777 + code) (omega arith)) ∙ e) in
      let next : next_of q.sets (slice_get line c) ≡ nexts.Code code = ap (next_of q.sets) there ∙ ap (λ (b : Bool). if b then nexts.Code code else other_of (has_keyword q.sets (Some code))) small in
      after_any (next_of q.sets (slice_get line c)) (last_in q.sets line c) (ap (are_shut_anyway q) next ∙ shut)

-- what is kept of a region tells of the patterns that a search has
pub shut_is : (a : Walk) → IsOfRegion a → (number : ℕ) →
    is_shut_at a.search.items.now a.search.matcher.sets.now a.search.matcher.budget number a.search.region.0 ≡ are_shut_by (question_of a) number
shut_is a of number =
    sym (λ i. are_shut_by (record { sets = a.search.matcher.sets.now; budget = a.search.matcher.budget; ignore = of.ignore i; skip = of.skip i; ends = of.ends i }) number)

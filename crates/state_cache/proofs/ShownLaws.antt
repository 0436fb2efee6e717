-- What two lines show is compared span by span; the lines that are told are those that show otherwise.
use Rattle.std.proofs.Common.{arith, sym, ap, subst, ◌∙◌, ◌≡◌, ◌<◌, ◌≤◌, ◌+◌, ◌-◌, ◌⊎◌, inl, inr, ℕ, zero, suc, List, [], ◌∷◌, ◌++◌, length, refl, Some, Bool, true, false}
use Rattle.std.specs.Prelude.{◌≢◌, ◌==◌, ◌&&◌, not, cond, filter, get_or, slice_get, slice_index, Contains, Decides, bytes_eq}
use Rattle.std.specs.List.{range_with_len}
use Rattle.std.specs.List.Sorted.{IsStrictlyIncreasing}
use Rattle.std.proofs.lemmas.Bool.{cases_lt}
use Rattle.std.proofs.lemmas.Bool.Decides.{Decides-eqb}
use Rattle.std.proofs.lemmas.List.{append_assoc}
use Rattle.std.proofs.lemmas.List.Kept.{IsStrictlyIncreasing-filter}
use Rattle.std.proofs.lemmas.Slice.Eq.{bytes_eq-Decides, slice_eq-Decides}
use Rattle.syn_base.specs.declared.places.Span.{Span}
use Rattle.syn_reader.specs.declared.syntax.Syntax.{Syntax}
use Rattle.paint_reuse.specs.Kept.{KeptNote}
use Rattle.paint_reuse.specs.Work.{kept_spans}
use Rattle.state_cache.specs.Shown.{AreLinesShownOtherwise, Shown, line_shown, lines_shown_otherwise, same_shown, show_same, shows_otherwise, text_shown}

-- ---- two lines

both : (x y : Bool) → (x && y) ≡ true → (x ≡ true) × (y ≡ true)
both true true e = (refl, refl)
both true false e = absurd cc
both false y e = absurd cc

and_true : (x y : Bool) → x ≡ true → y ≡ true → (x && y) ≡ true
and_true x y e f = ap (λ b. b && y) e ∙ f

shown_of : ℕ → ℕ → List ℕ → List ℕ → Shown
shown_of first last name final_name = record { first = first; last = last; name = name; final_name = final_name }

same_is : (a b : Shown) → same_shown a b ≡ true → a ≡ b
unfolding shown_of
same_is a b e =
    let one = both (a.first == b.first) ((a.last == b.last) && (bytes_eq a.name b.name && bytes_eq a.final_name b.final_name)) e in
    let two = both (a.last == b.last) (bytes_eq a.name b.name && bytes_eq a.final_name b.final_name) one.1 in
    let three = both (bytes_eq a.name b.name) (bytes_eq a.final_name b.final_name) two.1 in
    ap (λ x. shown_of x a.last a.name a.final_name) ((Decides-eqb a.first b.first).0 one.0)
    ∙ ap (λ x. shown_of b.first x a.name a.final_name) ((Decides-eqb a.last b.last).0 two.0)
    ∙ ap (λ x. shown_of b.first b.last x a.final_name) ((bytes_eq-Decides a.name b.name).0 three.0)
    ∙ ap (λ x. shown_of b.first b.last b.name x) ((bytes_eq-Decides a.final_name b.final_name).0 three.1)

itself : (a : Shown) → same_shown a a ≡ true
itself a =
    and_true (a.first == a.first) ((a.last == a.last) && (bytes_eq a.name a.name && bytes_eq a.final_name a.final_name)) ((Decides-eqb a.first a.first).1 refl)
    (and_true (a.last == a.last) (bytes_eq a.name a.name && bytes_eq a.final_name a.final_name) ((Decides-eqb a.last a.last).1 refl)
    (and_true (bytes_eq a.name a.name) (bytes_eq a.final_name a.final_name) ((bytes_eq-Decides a.name a.name).1 refl) ((bytes_eq-Decides a.final_name a.final_name).1 refl)))

same_decides : (a b : Shown) → Decides (same_shown a b) (a ≡ b)
same_decides a b = (same_is a b, λ e. subst (λ x. same_shown a x ≡ true) e (itself a))

show_decides : (xs ys : List Shown) → Decides (show_same xs ys) (xs ≡ ys)
show_decides xs ys = slice_eq-Decides same_decides xs ys (show_same xs ys) refl

-- ---- the lines that are told

module _ (p : ℕ → Bool) where
  in_cons : (x : ℕ) (xs : List ℕ) (m : ℕ) → Contains (x ∷ xs) m → (x ≡ m) ⊎ Contains xs m
  in_cons x xs m has = by has.0 has.1 has.2
    where
      by : (i : ℕ) → i < length (x ∷ xs) → get_or (x ∷ xs) i m ≡ m → (x ≡ m) ⊎ Contains xs m
      by zero within is = inl is
      by (suc i) within is = inr (i, omega (arith, within), is)

  in_tail : (x : ℕ) (xs : List ℕ) (m : ℕ) → Contains xs m → Contains (x ∷ xs) m
  in_tail x xs m has = (suc has.0, omega (arith, has.1), has.2)

  -- a line of those from one on
  abbrev IsKeptFrom : ℕ → ℕ → ℕ → Type 0
  IsKeptFrom from n m = (from ≤ m) × (m < from + n) × (p m ≡ true)

  abbrev first_or : Bool → ℕ → List ℕ → List ℕ
  first_or b from rest = cond b (from ∷ rest) rest

  later : (from n m : ℕ) → IsKeptFrom (from + 1) n m → IsKeptFrom from (suc n) m
  later from n m is = (omega (arith, is.0), omega (arith, is.1), is.2)

  first_is : (from n m : ℕ) → p from ≡ true → from ≡ m → IsKeptFrom from (suc n) m
  first_is from n m e same = (omega (arith, same), omega (arith, same), subst (λ k. p k ≡ true) same e)

  one_or_later : (from n m : ℕ) (rest : List ℕ) → (Contains rest m → IsKeptFrom (from + 1) n m) → p from ≡ true → (from ≡ m) ⊎ Contains rest m → IsKeptFrom from (suc n) m
  one_or_later from n m rest behind e (inl same) = first_is from n m e same
  one_or_later from n m rest behind e (inr more) = later from n m (behind more)

  of_first : (from n m : ℕ) (rest : List ℕ) → (Contains rest m → IsKeptFrom (from + 1) n m) → (b : Bool) → p from ≡ b → Contains (first_or b from rest) m → IsKeptFrom from (suc n) m
  of_first from n m rest behind true e has = one_or_later from n m rest behind e (in_cons from rest m has)
  of_first from n m rest behind false e has = later from n m (behind has)

  kept_from : (from n m : ℕ) → Contains (filter p (range_with_len from n)) m → IsKeptFrom from n m
  kept_from from zero m has = absurd (omega (arith, has.1))
  kept_from from (suc n) m has = of_first from n m (filter p (range_with_len (from + 1) n)) (kept_from (from + 1) n m) (p from) refl has

  behind_first : (from m : ℕ) (rest : List ℕ) (b : Bool) → Contains rest m → Contains (first_or b from rest) m
  behind_first from m rest true has = in_tail from rest m has
  behind_first from m rest false has = has

  at_first : (from m : ℕ) (rest : List ℕ) (b : Bool) → b ≡ true → from ≡ m → Contains (first_or b from rest) m
  at_first from m rest true is same = (0, omega arith, same)
  at_first from m rest false is same = absurd cc

  in_first : (from m : ℕ) (rest : List ℕ) → p m ≡ true → from ≤ m → (from + 1 ≤ m → Contains rest m) → (from < m) ⊎ (m ≤ from) → Contains (first_or (p from) from rest) m
  in_first from m rest e low more (inl below) = behind_first from m rest (p from) (more (omega (arith, below)))
  in_first from m rest e low more (inr above) =
      let same : from ≡ m = omega (arith, low, above) in
      at_first from m rest (p from) (subst (λ k. p k ≡ true) (sym same) e) same

  keeps : (from n m : ℕ) → from ≤ m → m < from + n → p m ≡ true → Contains (filter p (range_with_len from n)) m
  keeps from zero m low high e = absurd (omega (arith, low, high))
  keeps from (suc n) m low high e = in_first from m (filter p (range_with_len (from + 1) n)) e low (λ next. keeps (from + 1) n m next (omega (arith, high)) e) (cases_lt from m)

  -- ---- on the way: lines that were told, and those still to come

  abbrev pub kept_after : ℕ → ℕ → List ℕ
  kept_after i count = filter p (range_with_len i (count - i))

  one_more : (i count : ℕ) → i < count → kept_after i count ≡ first_or (p i) i (kept_after (i + 1) count)
  one_more i count below =
      let e : count - i ≡ suc (count - (i + 1)) = omega (arith, below) in
      ap (λ n. filter p (range_with_len i n)) e

  pub tells : (i count : ℕ) (lines : List ℕ) → i < count → p i ≡ true → (lines ++ i ∷ []) ++ kept_after (i + 1) count ≡ lines ++ kept_after i count
  tells i count lines below e =
      append_assoc lines (i ∷ []) (kept_after (i + 1) count)
      ∙ ap (λ rest. lines ++ rest) (sym (one_more i count below ∙ ap (λ b. first_or b i (kept_after (i + 1) count)) e))

  pub passes : (i count : ℕ) (lines : List ℕ) → i < count → p i ≡ false → lines ++ kept_after (i + 1) count ≡ lines ++ kept_after i count
  passes i count lines below e =
      ap (λ rest. lines ++ rest) (sym (one_more i count below ∙ ap (λ b. first_or b i (kept_after (i + 1) count)) e))

-- what a line shows by its note
pub shown_at : (syntax : Syntax) (notes : List KeptNote) (line : ℕ) (note : KeptNote) → Some note ≡ slice_get notes line → line_shown syntax note.spans ≡ get_or (text_shown syntax (kept_spans notes)) line []
shown_at syntax [] line note is = absurd cc
shown_at syntax (x ∷ notes) zero note is = cc
shown_at syntax (x ∷ notes) (suc line) note is = shown_at syntax notes line note is

-- whether a line shows otherwise, by the spans of its notes
pub otherwise_at : (old new : Syntax) (xs ys : List KeptNote) (line : ℕ) (x y : KeptNote) (one other : List Span) (same : Bool) → Some x ≡ slice_get xs line → Some y ≡ slice_get ys line → one ≡ x.spans → other ≡ y.spans → same ≡ show_same (line_shown old one) (line_shown new other) → shows_otherwise (text_shown old (kept_spans xs)) (text_shown new (kept_spans ys)) line ≡ not same
otherwise_at old new xs ys line x y one other same in_xs in_ys is_one is_other is =
    ap not (ap (λ s. show_same s (get_or (text_shown new (kept_spans ys)) line [])) (sym (ap (line_shown old) is_one ∙ shown_at old xs line x in_xs))
    ∙ ap (λ s. show_same (line_shown old one) s) (sym (ap (line_shown new) is_other ∙ shown_at new ys line y in_ys))
    ∙ sym is)

rising : (from n : ℕ) → IsStrictlyIncreasing (range_with_len from n)
rising from zero k within = absurd (omega (arith, within))
rising from (suc zero) k within = absurd (omega (arith, within))
rising from (suc (suc n)) zero within = omega arith
rising from (suc (suc n)) (suc k) within =
    let e : suc k + 1 ≡ suc (k + 1) = omega arith in
    let P : ℕ → Type 0 = λ i. slice_index (range_with_len from (suc (suc n))) (suc k) < slice_index (range_with_len from (suc (suc n))) i in
    subst P (sym e) (rising (from + 1) (suc n) k (omega (arith, within)))

-- ---- the laws

otherwise_is : (xs ys : List Shown) → not (show_same xs ys) ≡ true → xs ≢ ys
otherwise_is xs ys e same = absurd (clash (ap not ((show_decides xs ys).1 same)))
  where
    clash : not (show_same xs ys) ≡ false → ⊥
    clash f = cc

is_otherwise : (xs ys : List Shown) → xs ≢ ys → not (show_same xs ys) ≡ true
is_otherwise xs ys other = by (show_same xs ys) refl
  where
    by : (b : Bool) → show_same xs ys ≡ b → not (show_same xs ys) ≡ true
    by true e = absurd (other ((show_decides xs ys).0 e))
    by false e = ap not e

pub told_lines : (before after : List (List Shown)) → AreLinesShownOtherwise before after (lines_shown_otherwise before after)
told_lines before after = record {
  ascending = IsStrictlyIncreasing-filter (shows_otherwise before after) (range_with_len 0 (length after)) (rising 0 (length after));
  exact = λ line. (to line, from line);
}
  where
    to : (line : ℕ) → Contains (lines_shown_otherwise before after) line → (line < length after) × (get_or before line [] ≢ get_or after line [])
    to line has =
        let is = kept_from (shows_otherwise before after) 0 (length after) line has in
        (omega (arith, is.1), otherwise_is (get_or before line []) (get_or after line []) is.2)

    from : (line : ℕ) → (line < length after) × (get_or before line [] ≢ get_or after line []) → Contains (lines_shown_otherwise before after) line
    from line is = keeps (shows_otherwise before after) 0 (length after) line (omega arith) (omega (arith, is.0)) (is_otherwise (get_or before line []) (get_or after line []) is.1)

none_kept : (p : ℕ → Bool) → ((k : ℕ) → p k ≡ false) → (xs : List ℕ) → filter p xs ≡ []
none_kept p never [] = refl
none_kept p never (x ∷ xs) = ap (λ b. cond b (x ∷ filter p xs) (filter p xs)) (never x) ∙ none_kept p never xs

pub nothing_told : (shown : List (List Shown)) → lines_shown_otherwise shown shown ≡ []
nothing_told shown =
    none_kept (shows_otherwise shown shown) (λ k. ap not ((show_decides (get_or shown k []) (get_or shown k [])).1 refl)) (range_with_len 0 (length shown))

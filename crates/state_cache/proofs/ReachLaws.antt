-- How far lines looked.
use Rattle.std.proofs.Common.{arith, ◌∙◌, ◌≡◌, ◌<◌, ◌≤◌, ◌+◌, ℕ, pos, ◌+ℤ◌, ◌<ℤ◌, ◌≤ℤ◌, ◌⊎◌, inl, inr, subst, List, get_or, take, length, sym, true, Some, Bool}
use Rattle.std.specs.Prelude.{slice_get, IfSome}
use Rattle.std.specs.List.{All}
use Rattle.std.proofs.lemmas.List.{take_all}
use Rattle.std.proofs.lemmas.Int.{ints}
use Rattle.std.proofs.lemmas.Bool.{cases_lt, or_left, or_right}
use Rattle.std.proofs.lemmas.Option.{get_or_from_slice_get, slice_get_within}
use Rattle.std.proofs.lemmas.List.Elements.{All-more, All-weaker}
use Rattle.syn_base.specs.Looked.{hull_of, moved_by}
use Rattle.syn_base.specs.declared.looked.Looked.{Looked}
use Rattle.paint_reuse.specs.declared.change.Change.{Change}
use Rattle.paint_reuse.specs.Change.{old_line}
use Rattle.paint_reuse.specs.Kept.{KeptNote}
use Rattle.paint_reuse.specs.Work.{AreUntouched, is_untouched}
use Rattle.paint_reuse.proofs.Numbers.{same_keeps}
use Rattle.paint_reuse.proofs.Places.{same_place}
use Rattle.paint_reuse.proofs.ReusableIs.{clear_of}
use Rattle.paint_reuse.proofs.SameStates.{both_true}
use Rattle.state_cache.specs.declared.edit.Patch.{Patch}
use Rattle.state_cache.specs.Reach.{IsWithin, LooksWithin}

pub within_self : (a : Looked) → IsWithin a a
within_self a = record { low = omega (arith, ints); high = omega (arith, ints); numbered = λ h. h }

pub within_on : (a b c : Looked) → IsWithin a b → IsWithin b c → IsWithin a c
within_on a b c f g = record {
  low = omega (arith, ints, f.low, g.low);
  high = omega (arith, ints, f.high, g.high);
  numbered = λ h. g.numbered (f.numbered h);
}

pub first_within : (a b : Looked) → IsWithin a (hull_of a b)
first_within a b = record {
  low = grind (arith, ints);
  high = grind (arith, ints);
  numbered = or_left a.numbered b.numbered;
}

pub second_within : (a b : Looked) → IsWithin b (hull_of a b)
second_within a b = record {
  low = grind (arith, ints);
  high = grind (arith, ints);
  numbered = or_right a.numbered b.numbered;
}

pub all_within : (a b : Looked) (notes : List KeptNote) → IsWithin a b → All (LooksWithin a) notes → All (LooksWithin b) notes
all_within a b notes w h = All-weaker (LooksWithin a) (LooksWithin b) (λ (note : KeptNote) f. within_on note.looked a b f w) notes h

pub within_patches : (a b : Looked) (patches : List Patch) → IsWithin a b → All (λ (p : Patch). LooksWithin a p.note) patches → All (λ (p : Patch). LooksWithin b p.note) patches
within_patches a b patches w h = All-weaker (λ (p : Patch). LooksWithin a p.note) (λ (p : Patch). LooksWithin b p.note) (λ (p : Patch) f. within_on (p.note).looked a b f w) patches h

pub at_of_all : {A : Type 0} (P : A → Type 0) (xs : List A) (n : ℕ) (x : A) → All P xs → slice_get xs n ≡ Some x → P x
at_of_all P xs n x all e = subst P (get_or_from_slice_get xs n x x e) (all n x (slice_get_within xs n x e))

by_place : (j mid : ℕ) → (j < mid) ⊎ (mid ≤ j)
by_place j mid = cases_lt j mid

-- lines that can't have looked as far as the change looked at nothing of it: above it
pub untouched_above : (e : Change) (reach : Looked) (notes : List KeptNote) (from to : ℕ) → e.a ≤ e.b → All (LooksWithin reach) notes → ((j : ℕ) → from ≤ j → j < to → (j < e.a) × ((pos j +ℤ reach.high) <ℤ pos e.a)) → AreUntouched e notes from to
untouched_above e reach notes from to ordered within far j k note low high was found =
    let w = at_of_all (LooksWithin reach) notes j note within found in
    let l = far j low high in
    both_true _ _
    (clear_of e (Some (moved_by note.looked (pos j))) (inl (omega (arith, ints, w.high, l.1))))
    (same_keeps j k note.looked (λ _. same_place e j k ordered was (inl l.0)))

-- and below it, where none looked at a number or the lines stand where they stood
pub untouched_below : (e : Change) (reach : Looked) (notes : List KeptNote) (from to : ℕ) → e.a ≤ e.b → All (LooksWithin reach) notes → ((j : ℕ) → from ≤ j → j < to → (pos e.b ≤ℤ (pos j +ℤ reach.low)) × (reach.numbered ≡ true → e.a + e.count ≡ e.b)) → AreUntouched e notes from to
untouched_below e reach notes from to ordered within far j k note low high was found =
    let w = at_of_all (LooksWithin reach) notes j note within found in
    let l = far j low high in
    both_true _ _
    (clear_of e (Some (moved_by note.looked (pos j))) (inr (omega (arith, ints, w.low, l.0))))
    (same_keeps j k note.looked (λ looked. same_place e j k ordered was (inr (l.1 (w.numbered looked)))))

-- one line more
pub untouched_more : (e : Change) (notes : List KeptNote) (from j : ℕ) (test : Bool) → AreUntouched e notes from j → IfSome (slice_get notes j) (λ note. (k : ℕ) → old_line e k ≡ Some j → test ≡ is_untouched e j k note.looked) → test ≡ true → AreUntouched e notes from (j + 1)
untouched_more e notes from j test so_far tells passes i k note low high was found = by (by_place i j)
  where
    own : (note : KeptNote) → old_line e k ≡ Some j → slice_get notes j ≡ Some note → is_untouched e j k note.looked ≡ true
    own note was found = sym (subst (λ o. IfSome o (λ note. (k : ℕ) → old_line e k ≡ Some j → test ≡ is_untouched e j k note.looked)) found tells k was) ∙ passes

    by : (i < j) ⊎ (j ≤ i) → is_untouched e i k note.looked ≡ true
    by (inl h) = so_far i k note low h was found
    by (inr h) =
        let q : j ≡ i = omega arith in
        subst (λ (n : ℕ). old_line e k ≡ Some n → slice_get notes n ≡ Some note → is_untouched e n k note.looked ≡ true) q (own note) was found

-- one stretch behind another
pub untouched_on : (e : Change) (notes : List KeptNote) (from mid to : ℕ) → AreUntouched e notes from mid → AreUntouched e notes mid to → AreUntouched e notes from to
untouched_on e notes from mid to first rest j k note low high was found = on (by_place j mid)
  where
    on : (j < mid) ⊎ (mid ≤ j) → is_untouched e j k note.looked ≡ true
    on (inl h) = first j k note low h was found
    on (inr h) = rest j k note h high was found

-- one more is within the wider range
pub reaches_further : {A : Type 0} (look : A → Looked) (xs : List A) (i : ℕ) (x : A) (first all seen next : Looked) → i < length xs → x ≡ get_or xs i x → seen ≡ look x → next ≡ hull_of all seen → IsWithin first all → All (λ (y : A). IsWithin (look y) all) (take i xs) → IsWithin first next × All (λ (y : A). IsWithin (look y) next) (take (i + 1) xs)
reaches_further {A} look xs i x first all seen next on is sees wider grows so_far =
    let wide : IsWithin all next = subst (IsWithin all) (sym wider) (first_within all seen) in
    let own : IsWithin (look x) next = subst (IsWithin (look x)) (sym wider) (subst (λ (l : Looked). IsWithin l (hull_of all seen)) sees (second_within all seen)) in
    let before : All (λ (y : A). IsWithin (look y) next) (take i xs) = All-weaker (λ (y : A). IsWithin (look y) all) (λ (y : A). IsWithin (look y) next) (λ (y : A) h. within_on (look y) all next h wide) (take i xs) so_far in
    (within_on first all next grows wide, All-more (λ (y : A). IsWithin (look y) next) xs i x on before (subst (λ (y : A). IsWithin (look y) next) is own))

pub reaches_all : {A : Type 0} (look : A → Looked) (xs : List A) (i : ℕ) (all : Looked) → length xs ≤ i → All (λ (y : A). IsWithin (look y) all) (take i xs) → All (λ (y : A). IsWithin (look y) all) xs
reaches_all {A} look xs i all past so_far = subst (All (λ (y : A). IsWithin (look y) all)) (take_all i xs past) so_far

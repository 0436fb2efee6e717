-- At a place an item starts at most once, and the turns at a column suffice.
use Rattle.std.proofs.Common.{◌≡◌, ◌<◌, ◌≤◌, ◌+◌, ℕ, zero, suc, Bool, true, false, List, [], ◌∷◌}
use Rattle.std.proofs.Common.{length, map, refl, sym, ap, ◌∙◌, subst, arith}
use Rattle.std.specs.Prelude.{None, ◌||◌, nat_eq, eqb}
use Rattle.std.specs.List.{AllByRecursion, IsDistinct, list_any}
use Rattle.std.proofs.lemmas.Map.Steps.{length-le_from_distinct_below}
use Rattle.std.proofs.lemmas.Bool.{eqb-true}
use Rattle.std.proofs.lemmas.Bool.Decides.{nat_tests}
use Rattle.syn_base.specs.declared.places.ItemId.{ItemId}
use Rattle.paint_rules.specs.Painted.{Painted, done, ◌>>=◌}
use Rattle.paint_rules.specs.Rules.{Here, Cause, same_item}
use Rattle.paint_rules.specs.States.{Standing}
use Rattle.paint_rules.specs.Close.{closed}
use Rattle.paint_rules.specs.Pick.{Starting, Picked, Start, SkipOn, Nothing, picked, started}
use Rattle.paint_rules.specs.Line.{turns, column}
use Rattle.paint_laws.specs.Outcomes.{Gives}
use Rattle.paint_laws.specs.Starts.{starter, come_to, Starts, none_starts, one_starts, wait_goes_on}
use Rattle.paint_laws.specs.Starts.{nothing_starts, Course, ItemsStartOnce, KnownItemsStart}
use Rattle.paint_laws.specs.Starts.{ColumnsRunToTheirEnd}
use Rattle.paint_laws.proofs.OutcomeLaws.{Tells, told, then_tells, done_tells, weaker_tells}
use Rattle.paint_laws.proofs.TriedLaws.{Keeps, closed_keeps, Tries, started_tries}
use Rattle.paint_laws.proofs.PickedLaws.{IsNew, IsNewPick, picked_new}

eq_turned : (a b : ℕ) → nat_eq a b ≡ nat_eq b a
eq_turned a b = grind (arith, nat_tests)

neither : (a b : Bool) → a || b ≡ false → (a ≡ false) × (b ≡ false)
neither true b e = absurd (cc)
neither false b e = (refl, e)

abbrev Untried : List ItemId → ItemId → Type 0
Untried tried i = list_any (same_item i) tried ≡ false

-- items that aren't among some, with one more in front, differ from it
split : (j : ItemId) (tried items : List ItemId) → AllByRecursion (Untried (j ∷ tried)) items →
    AllByRecursion (λ i. same_item j i ≡ false) items × AllByRecursion (Untried tried) items
split j tried [] all = (tt, tt)
split j tried (i ∷ items) all =
    let both = neither (same_item i j) (list_any (same_item i) tried) all.0 in
    let rest = split j tried items all.1 in
    ((eq_turned j.0 i.0 ∙ both.0, rest.0), (both.1, rest.1))

each_differs : (i : ItemId) (tried : List ItemId) → Untried tried i →
    AllByRecursion (λ j. same_item i j ≡ false) tried
each_differs i [] e = tt
each_differs i (j ∷ tried) e =
    let both = neither (same_item i j) (list_any (same_item i) tried) e in
    (both.0, each_differs i tried both.1)

-- so many items that differ, each below a number, are at most that many
abbrev numbers : List ItemId → List ℕ
numbers items = map (λ i. i.0) items

numbers_differ : (i : ItemId) (items : List ItemId) →
    AllByRecursion (λ j. same_item i j ≡ false) items →
    AllByRecursion (λ k. eqb i.0 k ≡ false) (numbers items)
numbers_differ i [] all = tt
numbers_differ i (j ∷ items) all = (all.0, numbers_differ i items all.1)

numbers_distinct : (items : List ItemId) → IsDistinct same_item items →
    IsDistinct eqb (numbers items)
unfolding IsDistinct
numbers_distinct [] d = tt
numbers_distinct (i ∷ items) d = (numbers_differ i items d.0, numbers_distinct items d.1)

numbers_below : (n : ℕ) (items : List ItemId) → AllByRecursion (λ i. i.0 < n) items → (q : ℕ) →
    list_any (eqb q) (numbers items) ≡ true → q < n
numbers_below n [] all q e = absurd (cc)
numbers_below n (i ∷ items) all q e = by_first (numbers_below n items all.1 q) (eqb q i.0) refl
  where
    by_first : (list_any (eqb q) (numbers items) ≡ true → q < n) → (b : Bool) → eqb q i.0 ≡ b →
        q < n
    by_first rest true f = let same : q ≡ i.0 = eqb-true q i.0 f in let less : i.0 < n = all.0 in
        omega arith
    by_first rest false f = rest (sym (ap (λ b. b || list_any (eqb q) (numbers items)) f) ∙ e)

length_mapped : (items : List ItemId) → length (numbers items) ≡ length items
length_mapped [] = refl
length_mapped (i ∷ items) = ap suc (length_mapped items)

at_most : (n : ℕ) (items : List ItemId) → IsDistinct same_item items →
    AllByRecursion (λ i. i.0 < n) items → length items ≤ n
at_most n items d b =
    let le = length-le_from_distinct_below (numbers items) n (numbers_distinct items d)
    (numbers_below n items b) in
    omega (arith, le, length_mapped items)

module _ (h : Here) (c : ℕ) where
  pick_new : (s cleared : Standing) (starting : Starting) → Gives (closed h c s) cleared →
      Gives (picked h c cleared) (Start starting) →
      IsNew h s (starter starting)
  pick_new s cleared starting closes starts =
      let kept : cleared.tried ≡ s.tried =
      told (Keeps s) (closed h c s) cleared (closed_keeps h c s) closes in
      let new : IsNew h cleared (starter starting) =
      told (IsNewPick h c cleared) (picked h c cleared) (Start starting)
      (picked_new h c cleared) starts in
      record {
        untried = ap (list_any (same_item (starter starting))) (sym kept) ∙ new.untried;
        added = new.added;
      }

  start_tried : (s cleared more : Standing) (starting : Starting) → Gives (closed h c s) cleared →
      Gives (started h c cleared starting) more →
      more.tried ≡ starter starting ∷ s.tried
  start_tried s cleared more starting closes starts =
      told (Tries h c cleared (starter starting)) (started h c cleared starting) more
      (started_tries h c cleared starting) starts
      ∙ ap (λ tried. starter starting ∷ tried)
      (told (Keeps s) (closed h c s) cleared (closed_keeps h c s) closes)

  pub record AreNew (s : Standing) (items : List ItemId) : Type 0 where
    pub distinct : IsDistinct same_item items
    pub untried : AllByRecursion (Untried s.tried) items
    pub added : AllByRecursion (λ i. i.0 < length h.rules.items) items

  pub starts_new : {s last : Standing} {items : List ItemId} → Starts h c s items last →
      AreNew s items
  unfolding IsDistinct
  starts_new none_starts = record { distinct = tt; untried = tt; added = tt }
  starts_new (one_starts {s = s} {cleared = cleared} {more = more} {starting = starting}
      {items = items} closes picks begins rest) =
      let new = pick_new s cleared starting closes picks in
      let later = starts_new rest in
      let tried = start_tried s cleared more starting closes begins in
      let both = split (starter starting) s.tried items
      (subst (λ t. AllByRecursion (Untried t) items) tried later.untried) in
      record {
        distinct = (both.0, later.distinct);
        untried = (new.untried, both.1);
        added =
            (new.added, later.added);
      }

  abbrev n : ℕ
  n = length h.rules.items

  -- where some items have started, and so many turns are left
  record IsOnCourse (left : ℕ) (s : Standing) : Type 0 where
    distinct : IsDistinct same_item s.tried
    added : AllByRecursion (λ i. i.0 < n) s.tried
    count : length s.tried + left ≡ suc n

  on_course : (left : ℕ) (s cleared more : Standing) (starting : Starting) →
      Gives (closed h c s) cleared → Gives (picked h c cleared) (Start starting) →
      Gives (started h c cleared starting) more → IsOnCourse (suc left) s → IsOnCourse left more
  unfolding IsDistinct
  on_course left s cleared more starting closes picks begins on =
      let new = pick_new s cleared starting closes picks in
      let tried = start_tried s cleared more starting closes begins in
      let count : length (starter starting ∷ s.tried) + left ≡ suc n = omega (arith, on.count) in
      record {
        distinct = subst (IsDistinct same_item) (sym tried)
            (each_differs (starter starting) s.tried new.untried, on.distinct);
        added = subst (AllByRecursion (λ i. i.0 < n)) (sym tried) (new.added, on.added);
        count = subst (λ t. length t + left ≡ suc n) (sym tried) count;
      }

  turns_course : (left : ℕ) (s : Standing) → IsOnCourse left s →
      Tells (Course h c s) (turns left h c s)
  turns_course zero s on =
      absurd (omega (arith, on.count, at_most n s.tried on.distinct on.added))
  turns_course (suc left) s on =
      then_tells (Course h c s) (closed h c s) _ (λ cleared closes.
      then_tells (Course h c s) (picked h c cleared) _
      (λ pick picks. by_pick (turns_course left) cleared closes pick picks))
    where
      by_pick : ((more : Standing) → IsOnCourse left more →
          Tells (Course h c more) (turns left h c more)) → (cleared : Standing) →
          Gives (closed h c s) cleared → (pick : Picked) → Gives (picked h c cleared) pick →
          Tells (Course h c s)
          (elim pick as (λ _. Painted Cause Standing) [
            | Start starting ↦ started h c cleared starting >>= (λ s. turns left h c s)
            | SkipOn ↦ done cleared
            | Nothing ↦ done (record cleared { waiting = None })
          ])
      by_pick go cleared closes (Start starting) picks =
          then_tells (Course h c s) (started h c cleared starting) _ (λ more begins.
          weaker_tells (Course h c more) (Course h c s) (turns left h c more)
          (λ after course. record {
            items = starter starting ∷ course.items;
            last = course.last;
            starts = one_starts closes picks begins course.starts;
            ends = course.ends;
          })
          (go more (on_course left s cleared more starting closes picks begins on)))
      by_pick go cleared closes SkipOn picks =
          done_tells (Course h c s) cleared
          (record {
            items = [];
            last = s;
            starts = none_starts;
            ends =
                wait_goes_on closes picks;
          })
      by_pick go cleared closes Nothing picks =
          done_tells (Course h c s) (record cleared { waiting = None })
          (record {
            items = [];
            last = s;
            starts = none_starts;
            ends =
                nothing_starts closes picks;
          })

  pub column_course : (s : Standing) → Tells (Course h c (come_to s)) (column h c s)
  unfolding IsDistinct
  column_course s =
      turns_course (suc (length h.rules.items)) (come_to s)
      (record { distinct = tt; added = tt; count = omega arith })

pub items_start_once : ItemsStartOnce
items_start_once h c before last items starts = (starts_new h c starts).distinct

pub known_items_start : KnownItemsStart
known_items_start h c before last items starts = (starts_new h c starts).added

pub columns_run_to_their_end : ColumnsRunToTheirEnd
columns_run_to_their_end h c before after gives =
    told (Course h c (come_to before)) (column h c before) after (column_course h c before) gives

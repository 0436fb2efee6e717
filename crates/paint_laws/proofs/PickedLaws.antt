-- A pick starts an item of the syntax that hasn't been tried at the place.
use Rattle.std.proofs.Common.{◌≡◌, ◌<◌, ℕ, Bool, true, false, List, [], ◌∷◌, length, refl, sym}
use Rattle.std.proofs.Common.{subst}
use Rattle.std.specs.Prelude.{Option, Some, None, not, ◌&&◌, ◌-◌, take, drop, cond}
use Rattle.std.specs.Option.{option_map}
use Rattle.std.specs.List.{find, filter, AllByRecursion}
use Rattle.syn_base.specs.declared.places.ItemId.{ItemId}
use Rattle.keyword_table.specs.Candidates.{candidates}
use Rattle.keyword_table.specs.Words.{word_end}
use Rattle.paint_rules.specs.declared.Waiting.{Waiting}
use Rattle.paint_rules.specs.Painted.{Painted, done, first_found}
use Rattle.paint_rules.specs.Rules.{Here, Cause, this_line, item_of}
use Rattle.paint_rules.specs.Lists.{is_next}
use Rattle.paint_rules.specs.States.{Standing}
use Rattle.paint_rules.specs.Pick.{Starting, AWord, WordFound, keyword_to, keyword_at, start_by}
use Rattle.paint_rules.specs.Pick.{items_below, is_tried, start_among, is_allowed, Picked, Start}
use Rattle.paint_rules.specs.Pick.{SkipOn, Nothing, or_nothing, picked_allowed, picked_waiting}
use Rattle.paint_rules.specs.Pick.{picked, waits_on}
use Rattle.paint_laws.specs.Starts.{starter}
use Rattle.paint_laws.proofs.OutcomeLaws.{Tells, after_tells, done_tells, weaker_tells}
use Rattle.paint_laws.proofs.OutcomeLaws.{tested_tells, OfSome, first_tells}
use Rattle.paint_laws.proofs.TriedLaws.{IsOf, start_is_of}
use Rattle.paint_laws.proofs.AllowedLaws.{both_true, allowed_within, next_within}

-- an item of the syntax that hasn't been tried
pub record IsNew (h : Here) (s : Standing) (i : ItemId) : Type 0 where
  pub untried : is_tried s i ≡ false
  pub added : i.0 < length h.rules.items

pub not_true : (b : Bool) → not b ≡ true → b ≡ false
not_true true e = absurd (cc)
not_true false e = refl

found_by : {A : Type 0} (test : A → Bool) (x : A) (xs : List A) (b : Bool) → test x ≡ b →
    OfSome (λ y. test y ≡ true) (find test xs) →
    OfSome (λ y. test y ≡ true) (cond b (Some x) (find test xs))
found_by test x xs true e h = e
found_by test x xs false e h = h

found_passes : {A : Type 0} (test : A → Bool) (xs : List A) →
    OfSome (λ y. test y ≡ true) (find test xs)
found_passes test [] = tt
found_passes test (x ∷ xs) = found_by test x xs (test x) refl (found_passes test xs)

kept_by : {A : Type 0} (test : A → Bool) (x : A) (xs : List A) (b : Bool) → test x ≡ b →
    AllByRecursion (λ y. test y ≡ true) (filter test xs) →
    AllByRecursion (λ y. test y ≡ true) (cond b (x ∷ filter test xs) (filter test xs))
kept_by test x xs true e h = (e, h)
kept_by test x xs false e h = h

pub kept_pass : {A : Type 0} (test : A → Bool) (xs : List A) →
    AllByRecursion (λ y. test y ≡ true) (filter test xs)
kept_pass test [] = tt
kept_pass test (x ∷ xs) = kept_by test x xs (test x) refl (kept_pass test xs)

module _ (h : Here) (c : ℕ) (s : Standing) where
  abbrev IsNewStart : Starting → Type 0
  IsNewStart starting = IsNew h s (starter starting)

  abbrev pub IsNewPick : Picked → Type 0
  IsNewPick (Start starting) = IsNew h s (starter starting)
  IsNewPick SkipOn = Unit {0}
  IsNewPick Nothing = Unit {0}

  module _ (admits : ItemId → Bool)
      (known : (i : ItemId) → admits i ≡ true → i.0 < length h.rules.items) where
    abbrev free : ItemId → Bool
    free i = not (is_tried s i) && admits i

    free_new : (i : ItemId) → free i ≡ true → IsNew h s i
    free_new i e =
        let both = both_true (not (is_tried s i)) (admits i) e in
        record { untried = not_true (is_tried s i) both.0; added = known i both.1 }

    mapped_free : (end : ℕ) (o : Option ItemId) → OfSome (λ i. free i ≡ true) o →
        OfSome (λ (w : WordFound). free w.item ≡ true)
        (option_map (λ i. record { item = i; end = end }) o)
    mapped_free end None e = tt
    mapped_free end (Some i) e = e

    word_free : (end : Option ℕ) →
        OfSome (λ (w : WordFound). free w.item ≡ true) (keyword_to h.rules free (this_line h) c end)
    word_free None = tt
    word_free (Some end) =
        mapped_free end
        (find free (candidates h.rules.keywords (take (end - c) (drop c (this_line h)))))
        (found_passes free (candidates h.rules.keywords (take (end - c) (drop c (this_line h)))))

    by_word : (o : Option WordFound) → OfSome (λ (w : WordFound). free w.item ≡ true) o →
        Tells (OfSome IsNewStart)
        (elim o as (λ _. Painted Cause (Option Starting)) [
          | Some word ↦ done (Some (AWord word.item word.end))
          | None ↦ first_found (λ i. start_by h c s.floor i (item_of h.rules.items i).kind)
              (filter free (items_below (length h.rules.items)))
        ])
    by_word (Some w) e =
        done_tells (OfSome IsNewStart) (Some (AWord w.item w.end)) (free_new w.item e)
    by_word None e =
        first_tells (λ i. free i ≡ true) IsNewStart _
        (filter free (items_below (length h.rules.items)))
        (kept_pass free (items_below (length h.rules.items)))
        (λ i f. weaker_tells (OfSome (IsOf h c i)) (OfSome IsNewStart) _ (own i f)
        (start_is_of h c s.floor i (item_of h.rules.items i).kind))
      where
        own : (i : ItemId) → free i ≡ true → (o : Option Starting) → OfSome (IsOf h c i) o →
            OfSome IsNewStart o
        own i f None is = tt
        own i f (Some starting) is = subst (IsNew h s) (sym is) (free_new i f)

    pub among_new : Tells (OfSome IsNewStart) (start_among h c s admits)
    among_new = by_word (keyword_at h.rules free (this_line h) c)
        (word_free (word_end (this_line h) c h.rules.sets.keyword))

  or_nothing_new : (o : Option Starting) → OfSome IsNewStart o → IsNewPick (or_nothing o)
  or_nothing_new None n = tt
  or_nothing_new (Some starting) n = n

  allowed_new : Tells IsNewPick (picked_allowed h c s)
  allowed_new =
      after_tells (OfSome IsNewStart) IsNewPick (start_among h c s (is_allowed h.rules s.stack)) _
      (among_new (is_allowed h.rules s.stack) (allowed_within h.rules s.stack))
      (λ o n. done_tells IsNewPick (or_nothing o) (or_nothing_new o n))

  waiting_new : (w : Option Waiting) → Tells IsNewPick (picked_waiting h c s w)
  waiting_new None = allowed_new
  waiting_new (Some w) =
      after_tells (OfSome IsNewStart) IsNewPick (start_among h c s (is_next h.rules w.item)) _
      (among_new (is_next h.rules w.item) (next_within h.rules w.item)) by_found
    where
      by_found : (o : Option Starting) → OfSome IsNewStart o →
          Tells IsNewPick (elim o as (λ _. Painted Cause Picked) [
            | Some starting ↦ done (Start starting)
            | None ↦ elim (waits_on h.rules (this_line h) c w)
                [ true ↦ done SkipOn | false ↦ picked_allowed h c s ]
          ])
      by_found (Some starting) n = done_tells IsNewPick (Start starting) n
      by_found None n =
          tested_tells (waits_on h.rules (this_line h) c w)
          (done_tells IsNewPick SkipOn tt) allowed_new

  pub picked_new : Tells IsNewPick (picked h c s)
  picked_new = waiting_new s.waiting

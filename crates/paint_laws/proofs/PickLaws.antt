-- Of the items that may start at a place a keyword comes first, then the item that was defined last.
use Rattle.std.proofs.Common.{◌≡◌, ◌<◌, ℕ, zero, suc, arith, Bool, true, false, ◌∷◌}
use Rattle.std.proofs.Common.{length, refl, subst, sym, ◌∙◌}
use Rattle.std.specs.Prelude.{Option, Some, None, nat_eq, cond}
use Rattle.std.specs.List.{filter}
use Rattle.std.proofs.lemmas.Bool.Decides.{nat_tests}
use Rattle.syn_base.specs.declared.places.ItemId.{ItemId}
use Rattle.paint_rules.specs.declared.Waiting.{Waiting}
use Rattle.paint_rules.specs.Painted.{Painted, done, first_found}
use Rattle.paint_rules.specs.Rules.{Here, Cause, this_line}
use Rattle.paint_rules.specs.Lists.{is_next}
use Rattle.paint_rules.specs.States.{Standing}
use Rattle.paint_rules.specs.Pick.{Starting, AWord, WordFound, items_below, start_among}
use Rattle.paint_rules.specs.Pick.{is_allowed, waits_on, Picked, Start, SkipOn, Nothing, or_nothing}
use Rattle.paint_rules.specs.Pick.{picked_allowed, picked_waiting, picked}
use Rattle.paint_laws.specs.Outcomes.{Gives}
use Rattle.paint_laws.specs.Picks.{can_start, word_here, start_here, IsIdle}
use Rattle.paint_laws.specs.Picks.{ComesFirst, a_word, an_item, NoneStarts, Picks, allowed_starts}
use Rattle.paint_laws.specs.Picks.{nothing_starts, next_starts, wait_goes_on, wait_is_over}
use Rattle.paint_laws.specs.Picks.{PicksComeFirst}
use Rattle.paint_laws.proofs.OutcomeLaws.{Tells, told, then_tells, after_tells, done_tells}
use Rattle.paint_laws.proofs.OutcomeLaws.{weaker_tells}

module _ (h : Here) (c : ℕ) (s : Standing) where
  module _ (admits : ItemId → Bool) where
    abbrev can : ItemId → Bool
    can = can_start s admits

    abbrev numbered : ℕ → ItemId
    numbered n = record { 0 = n }

    -- of the items below a number the last defined one starts, or none does
    record IsLastBelow (n : ℕ) (starting : Starting) : Type 0 where
      item : ItemId
      known : item.0 < n
      may : can item ≡ true
      starts : Gives (start_here h c s item) (Some starting)
      behind : (j : ItemId) → item.0 < j.0 → j.0 < n → IsIdle h c s admits j

    abbrev LastBelow : ℕ → Option Starting → Type 0
    LastBelow n None = (j : ItemId) → j.0 < n → IsIdle h c s admits j
    LastBelow n (Some starting) = IsLastBelow n starting

    idle_below : (n : ℕ) → IsIdle h c s admits (numbered n) → (j : ItemId) →
        (j.0 < n → IsIdle h c s admits j) → j.0 < suc n → IsIdle h c s admits j
    idle_below n idle j below less = by_test (nat_eq j.0 n) refl
      where
        by_test : (b : Bool) → nat_eq j.0 n ≡ b → IsIdle h c s admits j
        by_test true e =
            let same : n ≡ j.0 = grind (arith, nat_tests) in
            subst (λ m. IsIdle h c s admits (numbered m)) same idle
        by_test false e = below (grind (arith, nat_tests))

    one_more : (n : ℕ) → IsIdle h c s admits (numbered n) → (o : Option Starting) →
        LastBelow n o → LastBelow (suc n) o
    one_more n idle None below = λ j less. idle_below n idle j (below j) less
    one_more n idle (Some starting) last = record {
      item = last.item;
      known = let k : last.item.0 < n = last.known in omega (arith, k);
      may = last.may;
      starts = last.starts;
      behind = λ j from less. idle_below n idle j (last.behind j from) less;
    }

    abbrev first_below : ℕ → Painted Cause (Option Starting)
    first_below n = first_found (start_here h c s) (filter can (items_below n))

    -- one item more, over those below it
    module _ (n : ℕ) (below : Tells (LastBelow n) (first_below n)) where
      by_found : can (numbered n) ≡ true → (found : Option Starting) →
          Gives (start_here h c s (numbered n)) found →
          Tells (LastBelow (suc n)) (elim found as (λ _. Painted Cause (Option Starting))
          [ None ↦ first_below n | Some starting ↦ done (Some starting) ])
      by_found may None g =
          weaker_tells (LastBelow n) (LastBelow (suc n)) (first_below n) (one_more n (λ _. g)) below
      by_found may (Some starting) g = done_tells (LastBelow (suc n)) (Some starting) (record {
        item = numbered n;
        known = omega arith;
        may = may;
        starts = g;
        behind = λ j from less. absurd (omega (arith, from, less));
      })

      by_test : (b : Bool) → can (numbered n) ≡ b → Tells (LastBelow (suc n))
          (first_found (start_here h c s)
          (cond b (numbered n ∷ filter can (items_below n)) (filter can (items_below n))))
      by_test true e =
          then_tells (LastBelow (suc n)) (start_here h c s (numbered n)) _ (by_found e)
      by_test false e =
          weaker_tells (LastBelow n) (LastBelow (suc n)) (first_below n)
          (one_more n (λ may. absurd (let no : true ≡ false = sym may ∙ e in cc))) below

    last_below : (n : ℕ) → Tells (LastBelow n) (first_below n)
    last_below zero = done_tells (LastBelow zero) None (λ j less. absurd (omega (arith, less)))
    last_below (suc n) = by_test n (last_below n) (can (numbered n)) refl

    -- what starts of the items that are admitted, or that none does
    abbrev First : Option Starting → Type 0
    First None = NoneStarts h c s admits
    First (Some starting) = ComesFirst h c s admits starting

    by_last : word_here h c s admits ≡ None → (o : Option Starting) →
        LastBelow (length h.rules.items) o → First o
    by_last e None idle = record { no_word = e; idle = idle }
    by_last e (Some starting) last = an_item e (record {
      item = last.item;
      known = last.known;
      may = last.may;
      starts = last.starts;
      behind = last.behind;
    })

    by_word : (o : Option WordFound) → word_here h c s admits ≡ o → Tells First
        (elim o as (λ _. Painted Cause (Option Starting)) [
          | Some word ↦ done (Some (AWord word.item word.end))
          | None ↦ first_found (start_here h c s) (filter can (items_below (length h.rules.items)))
        ])
    by_word (Some word) e = done_tells First (Some (AWord word.item word.end)) (a_word e)
    by_word None e =
        weaker_tells (LastBelow (length h.rules.items)) First _ (by_last e)
        (last_below (length h.rules.items))

    among_first : Tells First (start_among h c s admits)
    among_first = by_word (word_here h c s admits) refl

  allowed_picks : Tells (Picks h c s None) (picked_allowed h c s)
  allowed_picks =
      after_tells (First (is_allowed h.rules s.stack)) (Picks h c s None)
      (start_among h c s (is_allowed h.rules s.stack)) _ (among_first (is_allowed h.rules s.stack))
      by_found
    where
      by_found : (o : Option Starting) → First (is_allowed h.rules s.stack) o →
          Tells {E = Cause} (Picks h c s None) (done (or_nothing o))
      by_found None none = done_tells (Picks h c s None) Nothing (nothing_starts none)
      by_found (Some starting) first =
          done_tells (Picks h c s None) (Start starting) (allowed_starts first)

  waiting_picks : (w : Option Waiting) → Tells (Picks h c s w) (picked_waiting h c s w)
  waiting_picks None = allowed_picks
  waiting_picks (Some w) =
      after_tells (First (is_next h.rules w.item)) (Picks h c s (Some w))
      (start_among h c s (is_next h.rules w.item)) _ (among_first (is_next h.rules w.item)) by_found
    where
      by_wait : NoneStarts h c s (is_next h.rules w.item) → (b : Bool) →
          waits_on h.rules (this_line h) c w ≡ b → Tells (Picks h c s (Some w))
          (elim b as (λ _. Painted Cause Picked)
          [ true ↦ done SkipOn | false ↦ picked_allowed h c s ])
      by_wait none true e = done_tells (Picks h c s (Some w)) SkipOn (wait_goes_on none e)
      by_wait none false e =
          weaker_tells (Picks h c s None) (Picks h c s (Some w)) (picked_allowed h c s)
          (λ pick picks. wait_is_over none e picks) allowed_picks

      by_found : (o : Option Starting) → First (is_next h.rules w.item) o →
          Tells (Picks h c s (Some w)) (elim o as (λ _. Painted Cause Picked) [
            | Some starting ↦ done (Start starting)
            | None ↦ elim (waits_on h.rules (this_line h) c w)
                [ true ↦ done SkipOn | false ↦ picked_allowed h c s ]
          ])
      by_found (Some starting) first =
          done_tells (Picks h c s (Some w)) (Start starting) (next_starts first)
      by_found None none = by_wait none (waits_on h.rules (this_line h) c w) refl

pub picks_come_first : PicksComeFirst
picks_come_first h c s pick g =
    told (Picks h c s s.waiting) (picked h c s) pick (waiting_picks h c s s.waiting) g

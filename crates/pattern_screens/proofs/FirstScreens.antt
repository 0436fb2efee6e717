-- Where none of the first atoms fits, they are all that is tried.
use Rattle.pattern_screens.proofs.Common.{◌≡◌, ℕ, Bool, true, false, List, [], ◌∷◌, ◌++◌, length, refl, sym, ap, ◌∙◌, arith, subst, length-append, Option, Some, None, IfSome, pos, not, ◌||◌, nat_lt, slice_get, if◌then◌else◌, list_any, and_parts, not-true, or_parts, IfSome_then, none-some, same_Some, nat_tests, class_holds, is_same, Place, one_line, Atom, Char, Any, Is, Set, Shape, one, seq, or, group, external, repeat, Context, Way, way_from, place, line_at, behind_character, character_at, only_if, behind_if, behind_one, behind_one_or_end, fits, lines_looked, turned_round, collection_holds, Mark, Tick, followed, is_spent, visits, noted, noted_external, behind_fit, answer_of, for_tree, after_turn, is_plain, plain_fits, takes, is_forced, both_lists, first_atoms, some_fits, number_of, IsInVain}
use Rattle.match_rules.proofs.TurnLaws.{turns-forced}
use Rattle.pattern_screens.specs.FirstLaw.{AreFirstSound, FitAsTold}
use Rattle.pattern_screens.proofs.Bounded.{Bounded, followed-none, one-or, relaxed}
use Rattle.pattern_screens.proofs.InVain.{in-vain}
use Rattle.pattern_screens.proofs.Stands.{LooksAt}

-- ---- one atom

only-behind : (test : ℕ → Bool) (o : Option ℕ) (p : Place) → behind_if test o p ≡ only_if (takes false test o) (behind_character p)
only-behind test None p = refl
only-behind test (Some c) p = refl

one-told : (x : Context) (p : Place) (next : Option ℕ) → character_at x.text p ≡ next → (test : ℕ → Bool) → behind_one x.text test p ≡ only_if (takes false test next) (behind_character p)
one-told x p next k test = only-behind test (character_at x.text p) p ∙ ap (λ o. only_if (takes false test o) (behind_character p)) k

or-end-told : (x : Context) (p : Place) (next : Option ℕ) → character_at x.text p ≡ next → (takes_end : Bool) (test : ℕ → Bool) → not takes_end ≡ true → behind_one_or_end x.text takes_end test p ≡ only_if (takes false test next) (behind_character p)
or-end-told x p next k true test h = absurd (cc)
or-end-told x p next k false test h = one-told x p next k test

plain-told : (x : Context) (w : Way) (next : Option ℕ) → character_at x.text w.at ≡ next → (a : Atom) → is_plain a ≡ true → fits x w a ≡ only_if (plain_fits x.sets x.ignore next a) (behind_character w.at)
plain-told x w next k (Char c) p = one-told x w.at next k (λ d. is_same c d x.ignore)
plain-told x w next k (Any takes_end) p = or-end-told x w.at next k takes_end (λ d. true) p
plain-told x w next k (Is class negative takes_end) p = or-end-told x w.at next k takes_end (λ d. turned_round negative (class_holds class d x.sets)) p
plain-told x w next k (Set ranges) p = or-end-told x w.at next k ranges.line_end (λ d. collection_holds ranges d x.sets x.ignore) p
plain-told x w next k _ p = absurd (cc)

pub fits-told : FitAsTold
fits-told x w a p = plain-told x w (character_at x.text w.at) refl a p

pub plain-looks : (x : Context) (w : Way) (a : Atom) → is_plain a ≡ true → lines_looked x w a ≡ one_line (pos w.at.line)
plain-looks x w (Char c) p = refl
plain-looks x w (Any takes_end) p = refl
plain-looks x w (Is class negative takes_end) p = refl
plain-looks x w (Set ranges) p = refl
plain-looks x w _ p = absurd (cc)

-- so many ticks in one line, and no way
abbrev Vain : ℕ → List Atom → List Mark → Type 0
Vain line atoms marks = Bounded (λ p. ⊥) (LooksAt line) 0 (length atoms) marks

one-vain : (x : Context) (w : Way) (a : Atom) → is_plain a ≡ true → plain_fits x.sets x.ignore (character_at x.text w.at) a ≡ false → Vain w.at.line (a ∷ []) (visits x (one a) w)
one-vain x w a p h =
    subst (λ o. Vain w.at.line (a ∷ []) (Tick (lines_looked x w a) ∷ behind_fit w a o)) (sym (plain-told x w (character_at x.text w.at) refl a p ∙ ap (λ b. only_if b (behind_character w.at)) h))
    (record { here = tt; few = omega arith; cheap = omega arith; seen = (plain-looks x w a p, tt) })

-- ---- parts

pub lists-are : (o r : Option (List Atom)) (s : List Atom) → both_lists o r ≡ Some s → (a : List Atom) × ((b : List Atom) × ((o ≡ Some a) × (r ≡ Some b) × (a ++ b ≡ s)))
lists-are None r s e = absurd (none-some s e)
lists-are (Some a) None s e = absurd (none-some s e)
lists-are (Some a) (Some b) s e = (a, (b, (refl, refl, same_Some (a ++ b) s e)))

pub any-append : (f : Atom → Bool) (a b : List Atom) → list_any f (a ++ b) ≡ false → (list_any f a ≡ false) × (list_any f b ≡ false)
any-append f [] b h = (refl, h)
any-append f (c ∷ a) b h =
    let k = or_parts (f c) (list_any f (a ++ b)) h in
    let l = any-append f a b k.1 in
    (λ i. k.0 i || l.0 i, l.1)

pub forced-parts : (least : ℕ) (most : Option ℕ) → is_forced least most ≡ true → (nat_lt 0 least ≡ true) × (is_spent most ≡ false)
forced-parts least most h = let k = and_parts (nat_lt 0 least) (not (is_spent most)) h in (k.0, not-true (is_spent most) k.1)

pub cond-some : (b : Bool) (o : Option (List Atom)) (atoms : List Atom) → (if b then o else None) ≡ Some atoms → (b ≡ true) × (o ≡ Some atoms)
cond-some true o atoms e = (refl, e)
cond-some false o atoms e = absurd (none-some atoms e)

module _ (x : Context) (next : Option ℕ) where
  abbrev fails : List Atom → Type 0
  fails atoms = list_any (plain_fits x.sets x.ignore next) atoms ≡ false

  abbrev InVain : Shape → Option (List Atom) → Type 0
  InVain node o = (w : Way) → character_at x.text w.at ≡ next → IfSome o (λ atoms. fails atoms → Vain w.at.line atoms (visits x node w))

  -- what follows a part without a way is nothing
  followed-vain : (node : Shape) (o : Option (List Atom)) (w : Way) (f : Way → List Mark) → IfSome o (λ atoms. fails atoms → Vain w.at.line atoms (visits x node w)) → IfSome o (λ atoms. fails atoms → Vain w.at.line atoms (followed (visits x node w) f))
  followed-vain node o w f h = IfSome_then o h (λ atoms k e. subst (Vain w.at.line atoms) (sym (followed-none (visits x node w) f (omega (arith, (k e).few)))) (k e))

  or-vain : (a b : Shape) (o r : Option (List Atom)) → InVain a o → InVain b r → InVain (or a b) (both_lists o r)
  or-vain a b None r h k w at = tt
  or-vain a b (Some s) None h k w at = tt
  or-vain a b (Some s) (Some t) h k w at = λ e.
      let f = any-append (plain_fits x.sets x.ignore next) s t e in
      relaxed (one-or (h w at f.0) (k w at f.1)) (omega arith) (omega (arith, length-append s t))

  pub vain : (node : Shape) → InVain node (first_atoms node)
  vain (one a) w at = elim (is_plain a) as (λ b. is_plain a ≡ b → IfSome (if b then Some (a ∷ []) else None) (λ atoms. fails atoms → Vain w.at.line atoms (visits x (one a) w))) [
    | true ↦ λ p e. one-vain x w a p (ap (λ o. plain_fits x.sets x.ignore o a) at ∙ (or_parts (plain_fits x.sets x.ignore next a) false e).0)
    | false ↦ λ _. tt
  ] refl
  vain (seq a b) w at = followed-vain a (first_atoms a) w (visits x b) (vain a w at)
  vain (or a b) w at = or-vain a b (first_atoms a) (first_atoms b) (vain a) (vain b) w at
  vain (group part number) w at = followed-vain part (first_atoms part) w (noted number w.at) (vain part w at)
  vain (external part number) w at = followed-vain part (first_atoms part) w (noted_external number w.at) (vain part w at)
  vain (repeat part least most lazy) w at =
      elim (is_forced least most) as (λ b. is_forced least most ≡ b → IfSome (if b then first_atoms part else None) (λ atoms. fails atoms → Vain w.at.line atoms (visits x (repeat part least most lazy) w))) [
        | true ↦ λ e.
            let forced = forced-parts least most e in
            subst (λ marks. IfSome (first_atoms part) (λ atoms. fails atoms → Vain w.at.line atoms marks)) (sym (turns-forced x.text (visits x part) lazy least most w forced.1 (grind (arith, nat_tests, forced.0))))
            (followed-vain part (first_atoms part) w (after_turn x.text (visits x part) lazy least most w.at) (vain part w at))
        | false ↦ λ _. tt
      ] refl
  vain _ w at = tt

-- ---- the law

known : (x : Context) (next : Option ℕ) (start : Place) (o : Option (List Atom)) (marks : List Mark) → some_fits x.sets x.ignore next o ≡ false → IfSome o (λ atoms. fails x next atoms → Vain start.line atoms marks) → IsInVain start (number_of o) false (answer_of marks)
known x next start None marks e h = absurd (cc)
known x next start (Some atoms) marks e h = in-vain start (h e)

pub first-law : AreFirstSound
first-law tree x number col e =
    let y : Context = for_tree tree x in
    let start : Place = place number col in
    let next : Option ℕ = slice_get (line_at x.text number) col in
    known y next start (first_atoms tree.node) (visits y tree.node (way_from start)) e (vain y next tree.node (way_from start) refl)

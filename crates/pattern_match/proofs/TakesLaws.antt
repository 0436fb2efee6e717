-- The ways of a node that takes something stand behind the place where it was tried, so an optional
-- turn of it is a choice.
use Rattle.std.proofs.Common.{◌≡◌, ℕ, zero, suc, Bool, true, false, List, [], ◌∷◌, ◌++◌, inl, inr, refl, sym, ap, ◌∙◌, arith, subst}
use Rattle.std.specs.Prelude.{Option, Some, None, ◌&&◌, not, nat_lt, if◌then◌else◌}
use Rattle.std.proofs.lemmas.Bool.{cases_Bool, and_parts}
use Rattle.std.proofs.lemmas.Bool.Decides.{nat_tests}
use Rattle.syn_base.specs.declared.looked.Looked.{Looked}
use Rattle.syn_base.specs.declared.places.Place.{Place}
use Rattle.pattern_items.specs.declared.atom.Atom.{Atom}
use Rattle.pattern_items.specs.declared.atom.Atom.TheVariants.{Char, Any, Is, Set, LineEnd, MatchStart, MatchStop}
use Rattle.vim_pattern.specs.Shape.{Shape, empty, one, seq, or, and, group, external, repeat, ahead, before, whole}
use Rattle.match_rules.specs.Ways.{Text, Context, Way, is_after, behind_character, behind_line_end}
use Rattle.match_rules.specs.Atoms.{character_at, is_line_end, only_if, behind_if, behind_one, behind_one_or_end, fits}
use Rattle.match_rules.specs.Marks.{Mark, Tick, Reach, followed}
use Rattle.match_rules.specs.Counts.{places_behind, free_turns, turns, unforced, one_less, less_by, is_spent}
use Rattle.match_rules.specs.Looks.{look, tried_behind}
use Rattle.match_rules.specs.Visits.{visits, behind_fit, noted, noted_external}
use Rattle.match_rules.proofs.Walks.{IsForwards}
use Rattle.match_rules.proofs.Forwards.{stays, further_on, IsForwardsOrNone, fits-forwards}
use Rattle.match_rules.proofs.MarkLaws.{AllWays, followed-same, followed-reach}
use Rattle.match_rules.proofs.AllMarks.{AllMarks, AllMarks-append, AllMarks-followed, turns-all, look-all, whole-all}
use Rattle.pattern_screens.specs.FirstAtoms.{both_lists, first_atoms}
use Rattle.pattern_match.specs.FirstAtom.{is_forced}
use Rattle.pattern_match.specs.StandsFor.{StandsFor}
use Rattle.pattern_match.proofs.StandsLaws.{stands_through}
use Rattle.pattern_match.specs.Takes.{atom_takes, is_taking}

-- ---- what holds of each way

abbrev any : Looked → Type 0
any l = Unit {0}

abbrev pub AllStand : (Place → Type 0) → List Mark → Type 0
AllStand P marks = AllMarks any (λ v. P v.at) marks

all-any : (marks : List Mark) → AllStand (λ p. Unit {0}) marks
all-any [] = tt
all-any (Tick l ∷ marks) = (tt, all-any marks)
all-any (Reach w ∷ marks) = (tt, all-any marks)

ways-of : (P : Way → Type 0) (marks : List Mark) → AllMarks any P marks → AllWays P marks
ways-of P [] h = tt
ways-of P (Tick l ∷ marks) h = ways-of P marks h.1
ways-of P (Reach w ∷ marks) h = (h.0, ways-of P marks h.1)

stand-if : (P : Place → Type 0) (b : Bool) (m n : List Mark) → AllStand P m → AllStand P n →
    AllStand P (elim b as (λ _. List Mark) [ true ↦ m | false ↦ n ])
stand-if P true m n h k = h
stand-if P false m n h k = k

-- ---- ways never go back

module _ (P : Place → Type 0) (on : (p q : Place) → P p → IsForwards p q → P q) where
  fit-stands : (w : Way) (a : Atom) (o : Option Place) → P w.at → IsForwardsOrNone w.at o →
      AllStand P (behind_fit w a o)
  fit-stands w a None h k = tt
  fit-stands w MatchStart (Some p) h k = (h, tt)
  fit-stands w MatchStop (Some p) h k = (h, tt)
  fit-stands w _ (Some p) h k = (on w.at p h k, tt)

  pub all-stand : (x : Context) (s : Shape) (w : Way) → P w.at → AllStand P (visits x s w)
  all-stand x empty w h = (h, tt)
  all-stand x (one a) w h = (tt, fit-stands w a (fits x w a) h (fits-forwards x w a))
  all-stand x (seq a b) w h =
      AllMarks-followed any (λ v. P v.at) (λ v. P v.at) (visits x a w) (visits x b)
      (all-stand x a w h) (λ v k. all-stand x b v k)
  all-stand x (or a b) w h =
      AllMarks-append any (λ v. P v.at) (visits x a w) (visits x b w) (all-stand x a w h)
      (all-stand x b w h)
  all-stand x (and a b) w h =
      AllMarks-followed any (λ v. P v.at) (λ v. P v.at) (look false w (visits x a w)) (visits x b)
      (look-all any (λ v. Unit {0}) (λ v. P v.at) false w h (λ v k. h) (visits x a w)
      (all-any (visits x a w)))
      (λ v k. all-stand x b v k)
  all-stand x (group part number) w h =
      AllMarks-followed any (λ v. P v.at) (λ v. P v.at) (visits x part w) (noted number w.at)
      (all-stand x part w h) (λ v k. (k, tt))
  all-stand x (external part number) w h =
      AllMarks-followed any (λ v. P v.at) (λ v. P v.at) (visits x part w)
      (noted_external number w.at) (all-stand x part w h) (λ v k. (k, tt))
  all-stand x (repeat part least most lazy) w h =
      turns-all any (λ v. P v.at) x.text (visits x part) lazy (λ v k. all-stand x part v k) least
      most w h
  all-stand x (ahead part negative) w h =
      look-all any (λ v. Unit {0}) (λ v. P v.at) negative w h (λ v k. h) (visits x part w)
      (all-any (visits x part w))
  all-stand x (before part negative limit) w h =
      look-all any (λ v. Unit {0}) (λ v. P v.at) negative w h (λ v k. h)
      (tried_behind x.text (visits x part) limit w)
      (all-any (tried_behind x.text (visits x part) limit w))
  all-stand x (whole part) w h =
      whole-all any (λ v. P v.at) (visits x part w) (all-stand x part w h)

-- ---- what takes something

abbrev IsBehind : Place → Place → Type 0
IsBehind p q = is_after q p ≡ true

still-behind : (p q r : Place) → IsBehind p q → IsForwards q r → IsBehind p r
still-behind p q r h k = grind (arith, nat_tests, h, k.line, k.col)

behind-further : (p q r : Place) → IsForwards p q → IsBehind q r → IsBehind p r
behind-further p q r h k = grind (arith, nat_tests, k, h.line, h.col)

past-character : (p : Place) → IsBehind p (behind_character p)
past-character p = grind (arith, nat_tests)

past-line_end : (p : Place) → IsBehind p (behind_line_end p)
past-line_end p = grind (arith, nat_tests)

abbrev IsBehindOrNone : Place → Option Place → Type 0
IsBehindOrNone p None = Unit {0}
IsBehindOrNone p (Some q) = IsBehind p q

only_if-behind : (p : Place) (b : Bool) (q : Place) → IsBehind p q → IsBehindOrNone p (only_if b q)
only_if-behind p true q h = h
only_if-behind p false q h = tt

behind_if-behind : (test : ℕ → Bool) (o : Option ℕ) (p : Place) →
    IsBehindOrNone p (behind_if test o p)
behind_if-behind test None p = tt
behind_if-behind test (Some c) p =
    only_if-behind p (test c) (behind_character p) (past-character p)

by_end-behind : (text : Text) (test : ℕ → Bool) (p : Place) (b : Bool) →
    IsBehindOrNone p (if b then Some (behind_line_end p) else behind_one text test p)
by_end-behind text test p true = past-line_end p
by_end-behind text test p false = behind_if-behind test (character_at text p) p

or_end-behind : (text : Text) (takes_end : Bool) (test : ℕ → Bool) (p : Place) →
    IsBehindOrNone p (behind_one_or_end text takes_end test p)
or_end-behind text takes_end test p =
    by_end-behind text test p (takes_end && is_line_end text p)

fits-behind : (x : Context) (w : Way) (a : Atom) → atom_takes a ≡ true →
    IsBehindOrNone w.at (fits x w a)
fits-behind x w (Char c) e = behind_if-behind _ (character_at x.text w.at) w.at
fits-behind x w (Any takes_end) e = or_end-behind x.text takes_end (λ _. true) w.at
fits-behind x w (Is class negative takes_end) e = or_end-behind x.text takes_end _ w.at
fits-behind x w (Set ranges) e = or_end-behind x.text ranges.line_end _ w.at
fits-behind x w LineEnd e =
    only_if-behind w.at (is_line_end x.text w.at) (behind_line_end w.at) (past-line_end w.at)
fits-behind x w _ e = absurd (cc e)

not-spent : (b : Bool) → not b ≡ true → b ≡ false
not-spent true h = absurd (cc h)
not-spent false h = refl

module _ (p : Place) where
  atom-behind : (w : Way) (a : Atom) (o : Option Place) → atom_takes a ≡ true →
      IsForwards p w.at → IsBehindOrNone w.at o → AllStand (IsBehind p) (behind_fit w a o)
  atom-behind w a None e h k = tt
  atom-behind w MatchStart (Some q) e h k = absurd (cc e)
  atom-behind w MatchStop (Some q) e h k = absurd (cc e)
  atom-behind w _ (Some q) e h k = (behind-further p w.at q h k, tt)

  turn-behind : (x : Context) (part : Shape) (lazy : Bool) (least : ℕ) (most : Option ℕ)
      (w : Way) → is_spent most ≡ false → AllStand (IsBehind p) (visits x part w) →
      AllStand (IsBehind p) (turns x.text (visits x part) lazy (suc least) most w)
  turn-behind x part lazy least most w unspent h =
      let keeps = turns-all any (λ v. IsBehind p v.at) x.text (visits x part) lazy
      (λ v k. all-stand (IsBehind p) (still-behind p) x part v k) in
      subst (λ b. AllStand (IsBehind p) (elim b as (λ _. List Mark) [
        | true ↦ Reach w ∷ []
        | false ↦ followed (visits x part w) (λ v. elim (is_after v.at w.at) as (λ _. List Mark) [
          | true ↦ turns x.text (visits x part) lazy least (one_less most) v
          | false ↦ unforced x.text (visits x part) lazy (less_by most (suc least)) v
        ])
      ])) (sym unspent)
      (AllMarks-followed any (λ v. IsBehind p v.at) (λ v. IsBehind p v.at) (visits x part w) _ h
      (λ v k. stand-if (IsBehind p) (is_after v.at w.at) _ _ (keeps least (one_less most) v k)
      (keeps zero (less_by most (suc least)) v k)))

  pub all-behind : (x : Context) (s : Shape) (w : Way) → is_taking s ≡ true → IsForwards p w.at →
      AllStand (IsBehind p) (visits x s w)
  all-behind x empty w e h = absurd (cc e)
  all-behind x (one a) w e h =
      (tt, atom-behind w a (fits x w a) e h (fits-behind x w a e))
  all-behind x (seq a b) w e h =
      elim (cases_Bool (is_taking a)) [
        | inl first ↦
            AllMarks-followed any (λ v. IsBehind p v.at) (λ v. IsBehind p v.at) (visits x a w)
            (visits x b) (all-behind x a w first h)
            (λ v k. all-stand (IsBehind p) (still-behind p) x b v k)
        | inr other ↦
            let second : is_taking b ≡ true = (rw other at e) in
            AllMarks-followed any (λ v. IsForwards p v.at) (λ v. IsBehind p v.at) (visits x a w)
            (visits x b) (all-stand (IsForwards p) (further_on p) x a w h)
            (λ v k. all-behind x b v second k)
      ]
  all-behind x (or a b) w e h =
      let both = and_parts (is_taking a) (is_taking b) e in
      AllMarks-append any (λ v. IsBehind p v.at) (visits x a w) (visits x b w)
      (all-behind x a w both.0 h) (all-behind x b w both.1 h)
  all-behind x (and a b) w e h =
      AllMarks-followed any (λ v. IsForwards p v.at) (λ v. IsBehind p v.at)
      (look false w (visits x a w)) (visits x b)
      (look-all any (λ v. Unit {0}) (λ v. IsForwards p v.at) false w h (λ v k. h) (visits x a w)
      (all-any (visits x a w)))
      (λ v k. all-behind x b v e k)
  all-behind x (group part number) w e h =
      AllMarks-followed any (λ v. IsBehind p v.at) (λ v. IsBehind p v.at) (visits x part w)
      (noted number w.at) (all-behind x part w e h) (λ v k. (k, tt))
  all-behind x (external part number) w e h =
      AllMarks-followed any (λ v. IsBehind p v.at) (λ v. IsBehind p v.at) (visits x part w)
      (noted_external number w.at) (all-behind x part w e h) (λ v k. (k, tt))
  all-behind x (repeat part zero most lazy) w e h = absurd (cc e)
  all-behind x (repeat part (suc least) most lazy) w e h =
      let both = and_parts (is_forced (suc least) most) (is_taking part) e in
      let unspent = not-spent (is_spent most) (and_parts (nat_lt 0 (suc least)) _ both.0).1 in
      turn-behind x part lazy least most w unspent (all-behind x part w both.1 h)
  all-behind x (ahead part negative) w e h = absurd (cc e)
  all-behind x (before part negative limit) w e h = absurd (cc e)
  all-behind x (whole part) w e h =
      whole-all any (λ v. IsBehind p v.at) (visits x part w) (all-behind x part w e h)

-- ---- an optional turn

last-stop : (part : Way → List Mark) (lazy : Bool) (left : ℕ) (v : Way) →
    free_turns part lazy left (Some 0) v ≡ Reach v ∷ []
last-stop part lazy zero v = refl
last-stop part lazy (suc left) v = refl

took-one : (part : Way → List Mark) (lazy : Bool) (left : ℕ) (w v : Way) →
    is_after v.at w.at ≡ true →
    elim (is_after v.at w.at) as (λ _. List Mark)
    [ true ↦ free_turns part lazy left (Some 0) v | false ↦ [] ] ≡ Reach v ∷ []
took-one part lazy left w v e = rw e (last-stop part lazy left v)

optional-turn : (x : Context) (s : Shape) (lazy : Bool) (w : Way) → is_taking s ≡ true →
    followed (visits x s w) (λ v. elim (is_after v.at w.at) as (λ _. List Mark) [
      | true ↦ free_turns (visits x s) lazy (places_behind x.text w.at) (Some 0) v
      | false ↦ []
    ]) ≡ visits x s w
optional-turn x s lazy w e =
    followed-same (λ v. is_after v.at w.at ≡ true) (visits x s w) _ (λ v. Reach v ∷ [])
    (ways-of (λ v. is_after v.at w.at ≡ true) (visits x s w)
    (all-behind w.at x s w e (stays w.at)))
    (λ v k. took-one (visits x s) lazy (places_behind x.text w.at) w v k)
    ∙ followed-reach (visits x s w)

pub or-none : (a : Option (List Atom)) → both_lists a None ≡ None
or-none None = refl
or-none (Some a) = refl

-- a part that takes something, or nothing
pub stands_optional : (s : Shape) → is_taking s ≡ true →
    StandsFor (or s empty) (repeat s 0 (Some 1) false)
stands_optional s e = record {
  same = λ x w. ap (λ m. m ++ Reach w ∷ []) (sym (optional-turn x s false w e));
  numbers = λ h. (h, tt);
  first = or-none (first_atoms s);
}

-- the same, behind what stands for the choice
pub optional_made : (made s : Shape) (b : Bool) → StandsFor made (or s empty) → b ≡ is_taking s → b ≡ true →
    StandsFor made (repeat s 0 (Some 1) false)
optional_made made s b h e f = stands_through made (or s empty) (repeat s 0 (Some 1) false) h
    (stands_optional s (sym e ∙ f))

-- A node comes to what its fate says.
use Rattle.std.proofs.Common.{◌≡◌, ℕ, zero, suc, ◌+◌, Bool, true, false, List, [], ◌∷◌, ◌++◌, inl, inr, refl, sym, ap, ◌∙◌, arith, subst, append-nil, add-one}
use Rattle.std.specs.Prelude.{Option, None, take, pos, ◌-ℤ◌, ◌&&◌, ◌||◌, not, if◌then◌else◌}
use Rattle.std.proofs.lemmas.Bool.{cases_Bool, and_parts, and_from}
use Rattle.std.proofs.lemmas.Bool.Decides.{nat_tests}
use Rattle.syn_base.specs.declared.places.Place.{Place}
use Rattle.syn_base.specs.Looked.{one_line}
use Rattle.pattern_items.specs.declared.item.Behind.{Behind}
use Rattle.pattern_items.specs.declared.item.Behind.TheVariants.{Any, Most}
use Rattle.pattern_items.specs.GroupNumbers.{IsOneToNine}
use Rattle.vim_pattern.specs.GroupNumbers.{HasNumbers}
use Rattle.vim_pattern.specs.Shape.{Shape, empty, one, seq, or, and, group, external, repeat, ahead, before, whole}
use Rattle.match_rules.specs.Ways.{Text, Context, Way, is_after, is_same_place}
use Rattle.match_rules.specs.Marks.{Mark, Tick, Reach, followed, ticks_first, first_way, reach_if}
use Rattle.match_rules.specs.Counts.{is_spent, turns, unforced, in_order, one_less, less_by}
use Rattle.match_rules.specs.Looks.{starts_behind, from_each, ending_at, looking_at, look, tried_behind}
use Rattle.match_rules.specs.Visits.{visits, noted, noted_external}
use Rattle.pattern_screens.specs.FirstAtoms.{both_lists, first_atoms}
use Rattle.pattern_match.specs.FirstAtom.{first_atom, is_forced}
use Rattle.pattern_match.specs.declared.fate.Fate.{Fate}
use Rattle.pattern_match.specs.declared.fate.Fate.TheVariants.{Never, Stays, Passes, Opens, Tries}
use Rattle.pattern_match.specs.Fates.{behind, either, stops_first, counted, first_of, looked, fate_of, passes, choice}
use Rattle.pattern_match.specs.StandsFor.{StandsFor}
use Rattle.pattern_match.specs.Starts.{places_before}
use Rattle.pattern_match.proofs.FirstAtomLaws.{is_forced-more}
use Rattle.pattern_match.proofs.StartLaws.{places-first}

-- ways alone, which all stand at a place
abbrev pub AreAllAt : Place → List Mark → Type 0
AreAllAt p [] = Unit {0}
AreAllAt p (Tick l ∷ marks) = ⊥
AreAllAt p (Reach w ∷ marks) = (w.at ≡ p) × AreAllAt p marks

-- the same, and at least one
abbrev pub IsPassing : Place → List Mark → Type 0
IsPassing p [] = ⊥
IsPassing p (Tick l ∷ marks) = ⊥
IsPassing p (Reach w ∷ marks) = (w.at ≡ p) × AreAllAt p marks

-- a way at a place first
abbrev pub IsOpening : Place → List Mark → Type 0
IsOpening p [] = ⊥
IsOpening p (Tick l ∷ marks) = ⊥
IsOpening p (Reach w ∷ marks) = w.at ≡ p

abbrev pub ComesTo : Fate → Way → List Mark → Type 0
ComesTo Never w marks = marks ≡ []
ComesTo Stays w marks = marks ≡ Reach w ∷ []
ComesTo Passes w marks = IsPassing w.at marks
ComesTo Opens w marks = IsOpening w.at marks
ComesTo Tries w marks = Unit {0}

-- ---- ways at a place

all-of : (p : Place) (marks : List Mark) → IsPassing p marks → AreAllAt p marks
all-of p [] h = absurd h
all-of p (Tick l ∷ marks) h = absurd h
all-of p (Reach w ∷ marks) h = h

all-none : (p : Place) (marks : List Mark) → marks ≡ [] → AreAllAt p marks
all-none p marks e = subst (AreAllAt p) (sym e) tt

passing-one : (w : Way) (marks : List Mark) → marks ≡ Reach w ∷ [] → IsPassing w.at marks
passing-one w marks e = subst (IsPassing w.at) (sym e) (refl, tt)

all-append : (p : Place) (a b : List Mark) → AreAllAt p a → AreAllAt p b → AreAllAt p (a ++ b)
all-append p [] b h k = k
all-append p (Tick l ∷ a) b h k = absurd h
all-append p (Reach w ∷ a) b h k = (h.0, all-append p a b h.1 k)

passing-append : (p : Place) (a b : List Mark) → IsPassing p a → AreAllAt p b → IsPassing p (a ++ b)
passing-append p [] b h k = absurd h
passing-append p (Tick l ∷ a) b h k = absurd h
passing-append p (Reach w ∷ a) b h k = (h.0, all-append p a b h.1 k)

followed-none : (p : Place) (marks : List Mark) (next : Way → List Mark) → AreAllAt p marks →
    ((v : Way) → v.at ≡ p → next v ≡ []) → followed marks next ≡ []
followed-none p [] next h k = refl
followed-none p (Tick l ∷ marks) next h k = absurd h
followed-none p (Reach w ∷ marks) next h k =
    ap (λ r. r ++ followed marks next) (k w h.0) ∙ followed-none p marks next h.1 k

followed-all : (p : Place) (marks : List Mark) (next : Way → List Mark) → AreAllAt p marks →
    ((v : Way) → v.at ≡ p → IsPassing p (next v)) → AreAllAt p (followed marks next)
followed-all p [] next h k = tt
followed-all p (Tick l ∷ marks) next h k = absurd h
followed-all p (Reach w ∷ marks) next h k =
    all-append p (next w) (followed marks next) (all-of p (next w) (k w h.0))
    (followed-all p marks next h.1 k)

followed-passing : (p : Place) (marks : List Mark) (next : Way → List Mark) → IsPassing p marks →
    ((v : Way) → v.at ≡ p → IsPassing p (next v)) → IsPassing p (followed marks next)
followed-passing p [] next h k = absurd h
followed-passing p (Tick l ∷ marks) next h k = absurd h
followed-passing p (Reach w ∷ marks) next h k =
    passing-append p (next w) (followed marks next) (k w h.0) (followed-all p marks next h.1 k)

opening-of : (p : Place) (marks : List Mark) → IsPassing p marks → IsOpening p marks
opening-of p [] h = absurd h
opening-of p (Tick l ∷ marks) h = absurd h
opening-of p (Reach w ∷ marks) h = h.0

opening-one : (w : Way) (marks : List Mark) → marks ≡ Reach w ∷ [] → IsOpening w.at marks
opening-one w marks e = opening-of w.at marks (passing-one w marks e)

opening-append : (p : Place) (a b : List Mark) → IsOpening p a → IsOpening p (a ++ b)
opening-append p [] b h = absurd h
opening-append p (Tick l ∷ a) b h = absurd h
opening-append p (Reach w ∷ a) b h = h

followed-opening : (p : Place) (marks : List Mark) (next : Way → List Mark) → IsOpening p marks →
    ((v : Way) → v.at ≡ p → IsOpening p (next v)) → IsOpening p (followed marks next)
followed-opening p [] next h k = absurd h
followed-opening p (Tick l ∷ marks) next h k = absurd h
followed-opening p (Reach w ∷ marks) next h k =
    opening-append p (next w) (followed marks next) (k w h)

-- ---- two parts

behind-comes : (f g : Fate) (w : Way) (marks : List Mark) (next : Way → List Mark) →
    ComesTo f w marks → ((v : Way) → ComesTo g v (next v)) →
    ComesTo (behind f g) w (followed marks next)
behind-comes Never g w marks next h k = ap (λ m. followed m next) h
behind-comes Stays g w marks next h k =
    subst (ComesTo g w) (sym (ap (λ m. followed m next) h ∙ append-nil (next w))) (k w)
behind-comes Passes Never w marks next h k =
    followed-none w.at marks next (all-of w.at marks h) (λ v e. k v)
behind-comes Passes Stays w marks next h k =
    followed-passing w.at marks next h
    (λ v e. subst (λ p. IsPassing p (next v)) e (passing-one v (next v) (k v)))
behind-comes Passes Passes w marks next h k =
    followed-passing w.at marks next h (λ v e. subst (λ p. IsPassing p (next v)) e (k v))
behind-comes Passes Opens w marks next h k =
    followed-opening w.at marks next (opening-of w.at marks h)
    (λ v e. subst (λ p. IsOpening p (next v)) e (k v))
behind-comes Passes Tries w marks next h k = tt
behind-comes Opens Never w marks next h k = tt
behind-comes Opens Stays w marks next h k =
    followed-opening w.at marks next h
    (λ v e. subst (λ p. IsOpening p (next v)) e (opening-one v (next v) (k v)))
behind-comes Opens Passes w marks next h k =
    followed-opening w.at marks next h
    (λ v e. subst (λ p. IsOpening p (next v)) e (opening-of v.at (next v) (k v)))
behind-comes Opens Opens w marks next h k =
    followed-opening w.at marks next h (λ v e. subst (λ p. IsOpening p (next v)) e (k v))
behind-comes Opens Tries w marks next h k = tt
behind-comes Tries g w marks next h k = tt

either-comes : (f g : Fate) (w : Way) (a b : List Mark) → ComesTo f w a → ComesTo g w b →
    ComesTo (either f g) w (a ++ b)
either-comes Never g w a b h k = subst (ComesTo g w) (sym (ap (λ m. m ++ b) h)) k
either-comes Tries g w a b h k = tt
either-comes Opens g w a b h k = opening-append w.at a b h
either-comes Stays Tries w a b h k = opening-append w.at a b (opening-one w a h)
either-comes Passes Tries w a b h k = opening-append w.at a b (opening-of w.at a h)
either-comes Stays Opens w a b h k = opening-append w.at a b (opening-one w a h)
either-comes Passes Opens w a b h k = opening-append w.at a b (opening-of w.at a h)
either-comes Stays Never w a b h k = ap (λ m. m ++ b) h ∙ ap (λ m. Reach w ∷ m) k
either-comes Passes Never w a b h k = passing-append w.at a b h (all-none w.at b k)
either-comes Stays Stays w a b h k =
    passing-append w.at a b (passing-one w a h) (all-of w.at b (passing-one w b k))
either-comes Stays Passes w a b h k =
    passing-append w.at a b (passing-one w a h) (all-of w.at b k)
either-comes Passes Stays w a b h k =
    passing-append w.at a b h (all-of w.at b (passing-one w b k))
either-comes Passes Passes w a b h k = passing-append w.at a b h (all-of w.at b k)

-- ---- looks

-- a look takes the first way alone
looked-never : (negative : Bool) (w : Way) (marks : List Mark) → marks ≡ [] →
    ComesTo (looked Never negative) w (look negative w marks)
looked-never true w marks e = ap (look true w) e
looked-never false w marks e = ap (look false w) e

looked-stays : (negative : Bool) (w : Way) (marks rest : List Mark) → marks ≡ Reach w ∷ rest →
    ComesTo (looked Stays negative) w (look negative w marks)
looked-stays true w marks rest e = ap (look true w) e
looked-stays false w marks rest e = ap (look false w) e

looked-passes : (negative : Bool) (w v : Way) (marks rest : List Mark) → marks ≡ Reach v ∷ rest →
    ComesTo (looked Passes negative) w (look negative w marks)
looked-passes true w v marks rest e = ap (look true w) e
looked-passes false w v marks rest e =
    subst (IsPassing w.at) (sym (ap (look false w) e)) (refl, tt)

looked-opens : (negative : Bool) (w v : Way) (marks rest : List Mark) → marks ≡ Reach v ∷ rest →
    ComesTo (looked Opens negative) w (look negative w marks)
looked-opens true w v marks rest e = ap (look true w) e
looked-opens false w v marks rest e =
    subst (IsPassing w.at) (sym (ap (look false w) e)) (refl, tt)

first-opening : (p : Place) (marks : List Mark) → IsOpening p marks →
    (v : Way) × ((rest : List Mark) × ((marks ≡ Reach v ∷ rest) × (v.at ≡ p)))
first-opening p [] h = absurd h
first-opening p (Tick l ∷ marks) h = absurd h
first-opening p (Reach v ∷ marks) h = (v, (marks, (refl, h)))

looked-comes : (f : Fate) (negative : Bool) (w : Way) (marks : List Mark) → ComesTo f w marks →
    ComesTo (looked f negative) w (look negative w marks)
looked-comes Never negative w marks h = looked-never negative w marks h
looked-comes Stays negative w marks h = looked-stays negative w marks [] h
looked-comes Passes negative w marks h =
    let first = first-opening w.at marks (opening-of w.at marks h) in
    looked-passes negative w first.0 marks first.1.0 first.1.1.0
looked-comes Opens negative w marks h =
    let first = first-opening w.at marks h in
    looked-opens negative w first.0 marks first.1.0 first.1.1.0
looked-comes Tries negative w marks h = tt

whole-first : (w v : Way) (marks rest : List Mark) → marks ≡ Reach v ∷ rest → v.at ≡ w.at →
    IsPassing w.at (ticks_first marks ++ reach_if (first_way marks))
whole-first w v marks rest e at =
    subst (IsPassing w.at) (sym (ap (λ m. ticks_first m ++ reach_if (first_way m)) e)) (at, tt)

whole-comes : (f : Fate) (w : Way) (marks : List Mark) → ComesTo f w marks →
    ComesTo (first_of f) w (ticks_first marks ++ reach_if (first_way marks))
whole-comes Never w marks h = ap (λ m. ticks_first m ++ reach_if (first_way m)) h
whole-comes Stays w marks h = ap (λ m. ticks_first m ++ reach_if (first_way m)) h
whole-comes Passes w marks h =
    let first = first-opening w.at marks (opening-of w.at marks h) in
    whole-first w first.0 marks first.1.0 first.1.1.0 first.1.1.1
whole-comes Opens w marks h =
    let first = first-opening w.at marks h in
    whole-first w first.0 marks first.1.0 first.1.1.0 first.1.1.1
whole-comes Tries w marks h = tt

-- ---- looks behind: the first start is the place itself

starts-first : (text : Text) (limit : Behind) (p : Place) →
    (rest : List Place) × (starts_behind text limit p ≡ p ∷ rest)
starts-first text Any p = (places_before text false p, places-first text false p)
starts-first text (Most limit) p = (
  take limit (places_before text false p),
  ap (take (limit + 1)) (places-first text false p) ∙ rw add-one refl,
)

same_place-is : (p q : Place) → p ≡ q → is_same_place p q ≡ true
same_place-is p q e =
    let k : is_same_place q q ≡ true = grind (arith, nat_tests) in
    ap (λ o. is_same_place o q) e ∙ k

ending-first : (p : Place) (v : Way) (marks : List Mark) → v.at ≡ p →
    ending_at p (Reach v ∷ marks) ≡ Reach v ∷ ending_at p marks
ending-first p v marks e =
    ap (λ b. elim b as (λ _. List Mark) [
      | true ↦ Reach v ∷ ending_at p marks
      | false ↦ ending_at p marks
    ]) (same_place-is v.at p e)

from-none : (part : Way → List Mark) (w : Way) (places : List Place) →
    ((v : Way) → part v ≡ []) → from_each part w places ≡ []
from-none part w [] k = refl
from-none part w (p ∷ places) k =
    ap (λ m. m ++ from_each part w places) (k (record w { at = p })) ∙ from-none part w places k

module _ (text : Text) (part : Way → List Mark) (limit : Behind) (w : Way) where
  abbrev ended : List Mark → List Mark
  ended marks = looking_at (one_line (pos w.at.line -ℤ pos 1)) (ending_at w.at marks)

  behind-none : ((v : Way) → part v ≡ []) → tried_behind text part limit w ≡ []
  behind-none k = ap ended (from-none part w (starts_behind text limit w.at) k)

  behind-first : (v : Way) (marks : List Mark) → part w ≡ Reach v ∷ marks → v.at ≡ w.at →
      (rest : List Mark) × (tried_behind text part limit w ≡ Reach v ∷ rest)
  behind-first v marks e at =
      let starts = starts-first text limit w.at in
      let more : List Mark = marks ++ from_each part w starts.0 in
      let all : from_each part w (starts_behind text limit w.at) ≡ Reach v ∷ more =
      ap (from_each part w) starts.1 ∙ ap (λ m. m ++ from_each part w starts.0) e in (
        ended more,
        ap ended all
            ∙ ap (looking_at (one_line (pos w.at.line -ℤ pos 1))) (ending-first w.at v more at),
      )

  before-comes : (f : Fate) (negative : Bool) → ((v : Way) → ComesTo f v (part v)) →
      ComesTo (looked f negative) w (look negative w (tried_behind text part limit w))
  before-comes Never negative k =
      looked-never negative w (tried_behind text part limit w) (behind-none k)
  before-comes Stays negative k =
      let first = behind-first w [] (k w) refl in
      looked-stays negative w (tried_behind text part limit w) first.0 first.1
  before-comes Passes negative k =
      let way = first-opening w.at (part w) (opening-of w.at (part w) (k w)) in
      let first = behind-first way.0 way.1.0 way.1.1.0 way.1.1.1 in
      looked-passes negative w way.0 (tried_behind text part limit w) first.0 first.1
  before-comes Opens negative k =
      let way = first-opening w.at (part w) (k w) in
      let first = behind-first way.0 way.1.0 way.1.1.0 way.1.1.1 in
      looked-opens negative w way.0 (tried_behind text part limit w) first.0 first.1
  before-comes Tries negative k = tt

-- ---- counts

not_after : (p q : Place) → p ≡ q → is_after p q ≡ false
not_after p q e =
    let k : is_after q q ≡ false = grind (arith, nat_tests) in
    ap (λ o. is_after o q) e ∙ k

other : (b : Bool) (m n : List Mark) → b ≡ false →
    elim b as (λ _. List Mark) [ true ↦ m | false ↦ n ] ≡ n
other true m n e = absurd (cc)
other false m n e = refl

one-way : (b : Bool) (m n : List Mark) → (b ≡ false → n ≡ m) →
    elim b as (λ _. List Mark) [ true ↦ m | false ↦ n ] ≡ m
one-way true m n k = refl
one-way false m n k = k refl

true_or_false : true ≡ false → ⊥
true_or_false e = cc

elim-opening : (b : Bool) (p : Place) (m n : List Mark) → IsOpening p m → IsOpening p n →
    IsOpening p (elim b as (λ _. List Mark) [ true ↦ m | false ↦ n ])
elim-opening true p m n h k = h
elim-opening false p m n h k = k

in_order-none : (lazy : Bool) (w : Way) (more : List Mark) → more ≡ [] →
    in_order lazy more (Reach w ∷ []) ≡ Reach w ∷ []
in_order-none true w more e = ap (λ m. Reach w ∷ m) e
in_order-none false w more e = ap (λ m. m ++ Reach w ∷ []) e

by-stop : (stops : Bool) (w : Way) (marks : List Mark) →
    (stops ≡ true → IsOpening w.at marks) → ComesTo (counted Opens true stops) w marks
by-stop true w marks h = h refl
by-stop false w marks h = tt

or-neither : (b : Bool) → (b || false) ≡ b
or-neither true = refl
or-neither false = refl

module _ (text : Text) (part : Way → List Mark) (lazy : Bool) where
  -- where no turn takes anything, a count that isn't forced only stops
  unforced-stays : (most : Option ℕ) (w : Way) → AreAllAt w.at (part w) →
      unforced text part lazy most w ≡ Reach w ∷ []
  unforced-stays most w h =
      one-way (is_spent most) (Reach w ∷ []) _
      (λ _. in_order-none lazy w _
      (followed-none w.at (part w) _ h (λ v e. other (is_after v.at w.at) _ [] (not_after v.at w.at e))))

  turns-stay : (least : ℕ) (most : Option ℕ) (w : Way) → is_forced least most ≡ false →
      AreAllAt w.at (part w) → turns text part lazy least most w ≡ Reach w ∷ []
  turns-stay zero most w e h = unforced-stays most w h
  turns-stay (suc least) most w e h =
      one-way (is_spent most) (Reach w ∷ []) _
      (λ k. absurd (true_or_false (sym (is_forced-more least most false k) ∙ e)))

  in_order-lazy : (w : Way) (more : List Mark) → lazy ≡ true →
      IsOpening w.at (in_order lazy more (Reach w ∷ []))
  in_order-lazy w more z =
      subst (λ b. IsOpening w.at (in_order b more (Reach w ∷ []))) (sym z) refl

  -- a lazy count that isn't forced stops first
  lazy-opens : (least : ℕ) (most : Option ℕ) (w : Way) → is_forced least most ≡ false →
      lazy ≡ true → IsOpening w.at (turns text part lazy least most w)
  lazy-opens zero most w e z =
      elim-opening (is_spent most) w.at _ _ refl (in_order-lazy w _ z)
  lazy-opens (suc least) most w e z =
      elim (cases_Bool (is_spent most)) [
        | inl spent ↦ opening-one w (turns text part lazy (suc least) most w)
            (one-way (is_spent most) (Reach w ∷ []) _
            (λ k. absurd (true_or_false (sym spent ∙ k))))
        | inr unspent ↦
            absurd (true_or_false (sym (is_forced-more least most false unspent) ∙ e))
      ]

  opens-comes : (least : ℕ) (most : Option ℕ) (w : Way) → is_forced least most ≡ false →
      ComesTo (counted Opens false lazy) w (turns text part lazy least most w)
  opens-comes least most w e =
      elim (cases_Bool lazy) [
        | inl lazily ↦
            subst (λ b. ComesTo (counted Opens false b) w (turns text part lazy least most w))
            (sym lazily) (lazy-opens least most w e lazily)
        | inr greedily ↦
            subst (λ b. ComesTo (counted Opens false b) w (turns text part lazy least most w))
            (sym greedily) tt
      ]

  tries-comes : (least : ℕ) (most : Option ℕ) (w : Way) → is_forced least most ≡ false →
      ComesTo (counted Tries false lazy) w (turns text part lazy least most w)
  tries-comes least most w e =
      elim (cases_Bool lazy) [
        | inl lazily ↦
            subst (λ b. ComesTo (counted Tries false b) w (turns text part lazy least most w))
            (sym lazily) (lazy-opens least most w e lazily)
        | inr greedily ↦
            subst (λ b. ComesTo (counted Tries false b) w (turns text part lazy least most w))
            (sym greedily) tt
      ]

  unforced-comes : (f : Fate) (least : ℕ) (most : Option ℕ) (w : Way) →
      is_forced least most ≡ false → ((v : Way) → ComesTo f v (part v)) →
      ComesTo (counted f false lazy) w (turns text part lazy least most w)
  unforced-comes Never least most w e k =
      turns-stay least most w e (all-none w.at (part w) (k w))
  unforced-comes Stays least most w e k =
      turns-stay least most w e (all-of w.at (part w) (passing-one w (part w) (k w)))
  unforced-comes Passes least most w e k =
      turns-stay least most w e (all-of w.at (part w) (k w))
  unforced-comes Opens least most w e k = opens-comes least most w e
  unforced-comes Tries least most w e k = tries-comes least most w e

  spent-stays : (least : ℕ) (most : Option ℕ) (w : Way) → is_spent most ≡ true →
      turns text part lazy least most w ≡ Reach w ∷ []
  spent-stays zero most w e =
      one-way (is_spent most) (Reach w ∷ []) _ (λ k. absurd (true_or_false (sym e ∙ k)))
  spent-stays (suc least) most w e =
      one-way (is_spent most) (Reach w ∷ []) _ (λ k. absurd (true_or_false (sym e ∙ k)))

  -- a forced turn that takes nothing is the last one
  module _ (least : ℕ) (most : Option ℕ) (w : Way) where
    abbrev after : Way → List Mark
    after v =
        elim (is_after v.at w.at) as (λ _. List Mark) [
          | true ↦ turns text part lazy least (one_less most) v
          | false ↦ unforced text part lazy (less_by most (suc least)) v
        ]

    after-stays : (v : Way) → v.at ≡ w.at → AreAllAt v.at (part v) → after v ≡ Reach v ∷ []
    after-stays v e h =
        other (is_after v.at w.at) _ _ (not_after v.at w.at e)
        ∙ unforced-stays (less_by most (suc least)) v h

    -- a count that stops as soon as it may has a way behind it
    stop-opens : (v : Way) → (lazy || is_spent (less_by most (suc least))) ≡ true →
        IsOpening v.at (unforced text part lazy (less_by most (suc least)) v)
    stop-opens v stops =
        elim (cases_Bool lazy) [
          | inl lazily ↦ lazy-opens zero (less_by most (suc least)) v refl lazily
          | inr greedily ↦
              let spent : is_spent (less_by most (suc least)) ≡ true = rw greedily at stops in
              opening-one v (turns text part lazy zero (less_by most (suc least)) v)
              (spent-stays zero (less_by most (suc least)) v spent)
        ]

    after-opens : (v : Way) → v.at ≡ w.at →
        (lazy || is_spent (less_by most (suc least))) ≡ true → IsOpening w.at (after v)
    after-opens v e stops =
        subst (IsOpening w.at) (sym (other (is_after v.at w.at) _ _ (not_after v.at w.at e)))
        (subst (λ p. IsOpening p (unforced text part lazy (less_by most (suc least)) v)) e
        (stop-opens v stops))

    forced-comes : (f : Fate) → is_spent most ≡ false → ((v : Way) → ComesTo f v (part v)) →
        ComesTo (counted f true (lazy || is_spent (less_by most (suc least)))) w
        (turns text part lazy (suc least) most w)
    forced-comes Never unspent k =
        other (is_spent most) (Reach w ∷ []) (followed (part w) after) unspent
        ∙ ap (λ m. followed m after) (k w)
    forced-comes Stays unspent k =
        other (is_spent most) (Reach w ∷ []) (followed (part w) after) unspent
        ∙ (ap (λ m. followed m after) (k w)
        ∙ (append-nil (after w)
        ∙ after-stays w refl (all-of w.at (part w) (passing-one w (part w) (k w)))))
    forced-comes Passes unspent k =
        subst (IsPassing w.at)
        (sym (other (is_spent most) (Reach w ∷ []) (followed (part w) after) unspent))
        (followed-passing w.at (part w) after (k w)
        (λ v e. subst (λ p. IsPassing p (after v)) e
        (passing-one v (after v) (after-stays v e (all-of v.at (part v) (k v))))))
    forced-comes Opens unspent k =
        by-stop (lazy || is_spent (less_by most (suc least))) w _
        (λ stops. subst (IsOpening w.at)
        (sym (other (is_spent most) (Reach w ∷ []) (followed (part w) after) unspent))
        (followed-opening w.at (part w) after (k w) (λ v e. after-opens v e stops)))
    forced-comes Tries unspent k = tt

  unspent-comes : (f : Fate) (least : ℕ) (most : Option ℕ) (w : Way) → is_spent most ≡ false →
      ((v : Way) → ComesTo f v (part v)) →
      ComesTo (counted f (is_forced least most) (stops_first least most lazy)) w
      (turns text part lazy least most w)
  unspent-comes f zero most w unspent k =
      subst (λ b. ComesTo (counted f false b) w (turns text part lazy zero most w))
      (sym (or-neither lazy)) (unforced-comes f zero most w refl k)
  unspent-comes f (suc least) most w unspent k =
      let e : is_forced (suc least) most ≡ true = is_forced-more least most false unspent in
      subst (λ b. ComesTo
      (counted f b (lazy || (b && is_spent (less_by most (suc least))))) w
      (turns text part lazy (suc least) most w)) (sym e)
      (forced-comes least most w f unspent k)

  counted-comes : (f : Fate) (least : ℕ) (most : Option ℕ) (w : Way) →
      ((v : Way) → ComesTo f v (part v)) →
      ComesTo (if is_spent most then Stays
      else counted f (is_forced least most) (stops_first least most lazy)) w
      (turns text part lazy least most w)
  counted-comes f least most w k =
      elim (cases_Bool (is_spent most)) [
        | inl spent ↦
            subst (λ b. ComesTo (if b then Stays
            else counted f (is_forced least most) (stops_first least most lazy)) w
            (turns text part lazy least most w)) (sym spent) (spent-stays least most w spent)
        | inr unspent ↦
            subst (λ b. ComesTo (if b then Stays
            else counted f (is_forced least most) (stops_first least most lazy)) w
            (turns text part lazy least most w)) (sym unspent)
            (unspent-comes f least most w unspent k)
      ]

-- ---- all nodes

pub comes_to : (x : Context) (s : Shape) (w : Way) → ComesTo (fate_of s) w (visits x s w)
comes_to x empty w = refl
comes_to x (one a) w = tt
comes_to x (seq a b) w =
    behind-comes (fate_of a) (fate_of b) w (visits x a w) (visits x b) (comes_to x a w)
    (λ v. comes_to x b v)
comes_to x (or a b) w =
    either-comes (fate_of a) (fate_of b) w (visits x a w) (visits x b w) (comes_to x a w)
    (comes_to x b w)
comes_to x (and a b) w =
    behind-comes (looked (fate_of a) false) (fate_of b) w (look false w (visits x a w)) (visits x b)
    (looked-comes (fate_of a) false w (visits x a w) (comes_to x a w)) (λ v. comes_to x b v)
comes_to x (group part number) w =
    behind-comes (fate_of part) Passes w (visits x part w) (noted number w.at) (comes_to x part w)
    (λ v. (refl, tt))
comes_to x (external part number) w =
    behind-comes (fate_of part) Passes w (visits x part w) (noted_external number w.at)
    (comes_to x part w) (λ v. (refl, tt))
comes_to x (repeat part least most lazy) w =
    counted-comes x.text (visits x part) lazy (fate_of part) least most w (λ v. comes_to x part v)
comes_to x (ahead part negative) w =
    looked-comes (fate_of part) negative w (visits x part w) (comes_to x part w)
comes_to x (before part negative limit) w =
    before-comes x.text (visits x part) limit w (fate_of part) negative (λ v. comes_to x part v)
comes_to x (whole part) w =
    whole-comes (fate_of part) w (visits x part w) (comes_to x part w)

-- ---- first atoms

abbrev is_settled : Fate → Bool
is_settled Tries = false
is_settled _ = true

behind-settled : (f g : Fate) → is_settled (behind f g) ≡ true → is_settled f ≡ true
behind-settled Never g h = refl
behind-settled Stays g h = refl
behind-settled Passes g h = refl
behind-settled Opens g h = refl
behind-settled Tries g h = h

either-settled : (f g : Fate) → is_settled (either f g) ≡ true → is_settled f ≡ true
either-settled Never g h = refl
either-settled Stays g h = refl
either-settled Passes g h = refl
either-settled Opens g h = refl
either-settled Tries g h = h

unspent : (some spent : Bool) → (some && not spent) ≡ true → spent ≡ false
unspent false spent h = absurd (cc h)
unspent true true h = absurd (cc h)
unspent true false h = refl

forced-settled : (spent forced lazy : Bool) (f : Fate) → spent ≡ false → forced ≡ true → is_settled (if spent then Stays else counted f forced lazy) ≡ true → is_settled f ≡ true
forced-settled true forced lazy f a b h = absurd (cc a)
forced-settled false false lazy f a b h = absurd (cc b)
forced-settled false true lazy Never a b h = refl
forced-settled false true lazy Stays a b h = refl
forced-settled false true lazy Passes a b h = refl
forced-settled false true lazy Opens a b h = refl
forced-settled false true lazy Tries a b h = h

none-if : {A : Type 0} (o : Option A) (b : Bool) → (b ≡ true → o ≡ None) → (if b then o else None) ≡ None
none-if o true h = h refl
none-if o false h = refl

-- what is settled without a text tries no atom first
no-first : (s : Shape) → is_settled (fate_of s) ≡ true → first_atoms s ≡ None
no-first empty h = refl
no-first (one a) h = absurd (cc h)
no-first (seq a b) h = no-first a (behind-settled (fate_of a) (fate_of b) h)
no-first (or a b) h = ap (λ o. both_lists o (first_atoms b)) (no-first a (either-settled (fate_of a) (fate_of b) h))
no-first (and a b) h = refl
no-first (group part number) h = no-first part (behind-settled (fate_of part) Passes h)
no-first (external part number) h = no-first part (behind-settled (fate_of part) Passes h)
no-first (repeat part least most lazy) h =
    none-if (first_atoms part) (is_forced least most)
    (λ forced. no-first part (forced-settled (is_spent most) (is_forced least most) (stops_first least most lazy) (fate_of part) (unspent _ _ forced) forced h))
no-first (ahead part negative) h = refl
no-first (before part negative limit) h = refl
no-first (whole part) h = refl

-- ---- what stands for a settled node

pub stands_never : (s : Shape) → fate_of s ≡ Never → StandsFor (ahead empty true) s
stands_never s e = record {
  same = λ x w. sym (subst (λ f. ComesTo f w (visits x s w)) e (comes_to x s w));
  numbers = λ h. tt;
  first = sym (no-first s (ap is_settled e));
}

pub stands_stays : (s : Shape) → fate_of s ≡ Stays → StandsFor empty s
stands_stays s e = record {
  same = λ x w. sym (subst (λ f. ComesTo f w (visits x s w)) e (comes_to x s w));
  numbers = λ h. tt;
  first = sym (no-first s (ap is_settled e));
}

-- ---- choices

passing-fate : (f : Fate) (w : Way) (marks : List Mark) → passes f ≡ true → ComesTo f w marks →
    IsPassing w.at marks
passing-fate Stays w marks e h = passing-one w marks h
passing-fate Passes w marks e h = h
passing-fate Never w marks e h = absurd (cc e)
passing-fate Opens w marks e h = absurd (cc e)
passing-fate Tries w marks e h = absurd (cc e)

passing : (x : Context) (s : Shape) (w : Way) → passes (fate_of s) ≡ true →
    IsPassing w.at (visits x s w)
passing x s w e = passing-fate (fate_of s) w (visits x s w) e (comes_to x s w)

-- the ways of a part that passes are all at the place, the first one among them
pub passing_all : (x : Context) (s : Shape) (w : Way) → passes (fate_of s) ≡ true →
    AreAllAt w.at (visits x s w)
passing_all x s w e = all-of w.at (visits x s w) (passing x s w e)

pub passing_first : (x : Context) (s : Shape) (w : Way) → passes (fate_of s) ≡ true →
    (v : Way) × ((rest : List Mark) × ((visits x s w ≡ Reach v ∷ rest) × (v.at ≡ w.at)))
passing_first x s w e =
    first-opening w.at (visits x s w) (opening-of w.at (visits x s w) (passing x s w e))

if-true : (b : Bool) (s t : Shape) → b ≡ true → (if b then s else t) ≡ s
if-true true s t e = refl
if-true false s t e = absurd (cc e)

pub choice_is : (a b : Shape) → passes (fate_of a) ≡ true → passes (fate_of b) ≡ true →
    choice a b ≡ or a b
choice_is a b e f = if-true (passes (fate_of a) && passes (fate_of b)) (or a b) (group empty 0)
    (and_from (passes (fate_of a)) (passes (fate_of b)) e f)

no-group : IsOneToNine 0 → ⊥
no-group h = omega (arith, h.least)

if-numbered : (b : Bool) (s : Shape) → HasNumbers (if b then s else group empty 0) → b ≡ true
if-numbered true s h = refl
if-numbered false s h = absurd (no-group h.0)

pub choice_parts : (a b : Shape) → HasNumbers (choice a b) →
    (passes (fate_of a) ≡ true) × (passes (fate_of b) ≡ true)
choice_parts a b h = and_parts (passes (fate_of a)) (passes (fate_of b)) (if-numbered _ (or a b) h)

pub choice_numbers : (a b : Shape) → HasNumbers (choice a b) → HasNumbers a × HasNumbers b
choice_numbers a b h =
    let parts = choice_parts a b h in
    rw (choice_is a b parts.0 parts.1) at h

settled-passes : (f : Fate) → passes f ≡ true → is_settled f ≡ true
settled-passes Stays e = refl
settled-passes Passes e = refl
settled-passes Never e = absurd (cc e)
settled-passes Opens e = refl
settled-passes Tries e = absurd (cc e)

no-first-if : (c : Bool) (a b : Shape) → (c ≡ true → first_atoms a ≡ None) →
    first_atoms (if c then or a b else group empty 0) ≡ None
no-first-if true a b h = ap (λ o. both_lists o (first_atoms b)) (h refl)
no-first-if false a b h = refl

pub choice_first_atoms : (a b : Shape) → first_atoms (choice a b) ≡ None
choice_first_atoms a b =
    no-first-if (passes (fate_of a) && passes (fate_of b)) a b
    (λ both. no-first a
    (settled-passes (fate_of a) (and_parts (passes (fate_of a)) (passes (fate_of b)) both).0))

pub choice_first_atom : (a b : Shape) → first_atom (choice a b) ≡ None
choice_first_atom a b =
    elim (passes (fate_of a) && passes (fate_of b)) as
    (λ c. first_atom (if c then or a b else group empty 0) ≡ None) [ true ↦ refl | false ↦ refl ]

-- Where parts lead among a line's characters that aren't blanks.
use Rattle.std.proofs.Common.{◌≡◌, ◌<◌, ◌≤◌, ◌⊎◌, inl, inr, ℕ, Bool, true, false, List, [], ◌∷◌, refl, sym, ap, ◌∙◌, arith, subst}
use Rattle.std.specs.Prelude.{Option, Some, None, ◌||◌, ◌&&◌, nat_eq, slice_get}
use Rattle.std.proofs.lemmas.Bool.{cases_lt, or_cases, or_parts}
use Rattle.std.proofs.lemmas.Bool.Decides.{nat_tests}
use Rattle.std.proofs.lemmas.Option.{same_Some}
use Rattle.char_class.specs.declared.sets.Sets.{Sets}
use Rattle.syn_base.specs.declared.class.Class.TheVariants.{White}
use Rattle.syn_base.specs.declared.places.Place.{Place}
use Rattle.pattern_items.specs.declared.atom.Atom.{Atom}
use Rattle.pattern_items.specs.declared.atom.Atom.TheVariants.{Char, Any, Is, Set, LineEnd, LineStart, LineStop, WordStart, WordStop, FileStart, FileStop, MatchStart, MatchStop, LineNumber, Ref, ExternalRef}
use Rattle.vim_pattern.specs.Shape.{Shape, empty, one, seq, or, group, repeat}
use Rattle.match_rules.specs.Ways.{Context, Way, behind_character, is_after, line_at, place}
use Rattle.match_rules.specs.Atoms.{character_at, fits, only_if, way_behind}
use Rattle.match_rules.specs.Marks.{Mark, Tick, Reach}
use Rattle.match_rules.specs.Visits.{behind_fit, noted, visits}
use Rattle.match_rules.proofs.AllMarks.{AllMarks, turns-all}
use Rattle.match_rules.proofs.MarkLaws.{AllWays, AllWays-append, AllWays-followed}
use Rattle.match_rules.proofs.Walks.{IsForwards}
use Rattle.pattern_screens.specs.Lined.{is_lined_atom}
use Rattle.pattern_screens.specs.PlainAtoms.{is_plain, plain_fits, plain_takes}
use Rattle.pattern_screens.proofs.FirstScreens.{fits-told}
use Rattle.pattern_needs.specs.Characters.{holds}
use Rattle.pattern_needs.specs.declared.characters.Characters.{Characters}
use Rattle.pattern_needs.specs.Nonblanks.{IsSecondAt, IsWider, Leads, StandsAt, is_blank}
use Rattle.pattern_needs.specs.declared.nonblanks.Counted.{Counted}
use Rattle.pattern_needs.proofs.Forwards.{Anything, IsLater, goes-forwards, ways-of-all}

-- ---- ways

pub true-or : (b : Bool) → b ≡ true → b ≡ false → ⊥
true-or true e f = absurd (cc)
true-or false e f = absurd (cc)

pub ways-map : (P Q : Way → Type 0) (marks : List Mark) → ((v : Way) → P v → Q v) → AllWays P marks → AllWays Q marks
ways-map P Q [] f h = tt
ways-map P Q (Tick l ∷ marks) f h = ways-map P Q marks f h
ways-map P Q (Reach w ∷ marks) f h = (f w h.0, ways-map P Q marks f h.1)

pub marks-of : (P : Way → Type 0) (marks : List Mark) → AllWays P marks → AllMarks Anything P marks
marks-of P [] h = tt
marks-of P (Tick l ∷ marks) h = (tt, marks-of P marks h)
marks-of P (Reach w ∷ marks) h = (h.0, marks-of P marks h.1)

-- ---- parts

pub leads-empty : (sets : Sets) (ignore : Bool) (s : Counted) → Leads sets ignore empty s s
leads-empty sets ignore s x l first at c hs hi sec w h = (h, tt)

pub leads-seq : (sets : Sets) (ignore : Bool) (a b : Shape) (s t r : Counted) → Leads sets ignore a s t → Leads sets ignore b t r → Leads sets ignore (seq a b) s r
leads-seq sets ignore a b s t r f g x l first at c hs hi sec w h =
    AllWays-followed (λ v. StandsAt l first at c t v.at) (λ v. StandsAt l first at c r v.at) (visits x a w) (visits x b) (f x l first at c hs hi sec w h) (λ v k. g x l first at c hs hi sec v k)

pub leads-or : (sets : Sets) (ignore : Bool) (a b : Shape) (s r : Counted) → Leads sets ignore a s r → Leads sets ignore b s r → Leads sets ignore (or a b) s r
leads-or sets ignore a b s r f g x l first at c hs hi sec w h =
    AllWays-append (λ v. StandsAt l first at c r v.at) (visits x a w) (visits x b w) (f x l first at c hs hi sec w h) (g x l first at c hs hi sec w h)

pub leads-group : (sets : Sets) (ignore : Bool) (part : Shape) (number : ℕ) (s r : Counted) → Leads sets ignore part s r → Leads sets ignore (group part number) s r
leads-group sets ignore part number s r f x l first at c hs hi sec w h =
    AllWays-followed (λ v. StandsAt l first at c r v.at) (λ v. StandsAt l first at c r v.at) (visits x part w) (noted number w.at) (f x l first at c hs hi sec w h) (λ v k. (k, tt))

pub leads-wider : (sets : Sets) (ignore : Bool) (node : Shape) (s t r : Counted) → IsWider t r → Leads sets ignore node s t → Leads sets ignore node s r
leads-wider sets ignore node s t r wide f x l first at c hs hi sec w h =
    ways-map (λ v. StandsAt l first at c t v.at) (λ v. StandsAt l first at c r v.at) (visits x node w) (λ v k. wide l first at c v.at k) (f x l first at c hs hi sec w h)

-- ---- somewhere behind

pub record Opens (s r : Counted) : Type 0 where
  pub none : s.none ≡ true → (r.none ≡ true) × ((r.one ≡ true) × ((c : ℕ) → holds r.two c ≡ true))
  pub one : s.one ≡ true → (r.one ≡ true) × ((c : ℕ) → holds r.two c ≡ true)
  pub two : (c : ℕ) → holds s.two c ≡ true → holds r.two c ≡ true

pub shut-opens : (s : Counted) → (s.none || s.one) ≡ false → Opens s s
shut-opens s e =
    let k = or_parts s.none s.one e in
    record {
      none = λ f. absurd (true-or s.none f k.0);
      one = λ f. absurd (true-or s.one f k.1);
      two = λ c f. f;
    }

-- a place in the line up to the second, or behind that
place-is : (l at : ℕ) (p q : Place) → p.line ≡ l → IsForwards p q → (is_after q (place l at) ≡ true) ⊎ ((q.line ≡ l) × (q.col ≤ at))
place-is l at p q on k = by (is_after q (place l at)) refl
  where
    by : (b : Bool) → is_after q (place l at) ≡ b → (is_after q (place l at) ≡ true) ⊎ ((q.line ≡ l) × (q.col ≤ at))
    by true e = inl e
    by false e = inr (grind (arith, nat_tests, e, k.line, on), grind (arith, nat_tests, e, k.line, on))

stays-after : (l at : ℕ) (p q : Place) → is_after p (place l at) ≡ true → IsForwards p q → is_after q (place l at) ≡ true
stays-after l at p q e k = grind (arith, nat_tests, e, k.line, k.col)

stands-on : (s r : Counted) → Opens s r → (l first at c : ℕ) → first < at → (p q : Place) → StandsAt l first at c s p → IsForwards p q → StandsAt l first at c r q
stands-on s r opens l first at c later p q (inl none) k = elim (place-is l at p q none.1.0 k) [
  | inl after ↦ inr (inr ((opens.none none.0).1.1 c, after))
  | inr here ↦ elim (cases_lt first q.col) [
    | inl behind ↦ inr (inl ((opens.none none.0).1.0, (here.0, (behind, here.1))))
    | inr before ↦ inl ((opens.none none.0).0, (here.0, before))
  ]
]
stands-on s r opens l first at c later p q (inr (inl it)) k = elim (place-is l at p q it.1.0 k) [
  | inl after ↦ inr (inr ((opens.one it.0).1 c, after))
  | inr here ↦
      let same : p.line ≡ q.line = omega (arith, it.1.0, here.0) in
      inr (inl ((opens.one it.0).0, (here.0, (omega (arith, it.1.1.0, k.col same), here.1))))
]
stands-on s r opens l first at c later p q (inr (inr two)) k = inr (inr (opens.two c two.0, stays-after l at p q two.1 k))

pub leads-further : (sets : Sets) (ignore : Bool) (node : Shape) (s r : Counted) → Opens s r → Leads sets ignore node s r
leads-further sets ignore node s r opens x l first at c hs hi sec w h =
    ways-map (IsLater w.at) (λ v. StandsAt l first at c r v.at) (visits x node w) (λ v k. stands-on s r opens l first at c sec.later w.at v.at h k) (goes-forwards x node w)

-- ---- atoms that take nothing

here-if : (P : Place → Type 0) (w : Way) (a : Atom) (b : Bool) → (way_behind w w.at a).at ≡ w.at → P w.at → AllWays (λ v. P v.at) (behind_fit w a (only_if b w.at))
here-if P w a true e h = (subst P (sym e) h, tt)
here-if P w a false e h = tt

pub stays-here : (P : Place → Type 0) (x : Context) (w : Way) (a : Atom) → is_plain a ≡ false → is_lined_atom a ≡ true → P w.at → AllWays (λ v. P v.at) (behind_fit w a (fits x w a))
stays-here P x w LineStart e l h = here-if P w LineStart _ refl h
stays-here P x w LineStop e l h = here-if P w LineStop _ refl h
stays-here P x w WordStart e l h = here-if P w WordStart _ refl h
stays-here P x w WordStop e l h = here-if P w WordStop _ refl h
stays-here P x w MatchStart e l h = (h, tt)
stays-here P x w MatchStop e l h = (h, tt)
stays-here P x w (Char c) e l h = absurd (cc)
stays-here P x w (Any takes_end) e l h = absurd (cc)
stays-here P x w (Is class negative takes_end) e l h = absurd (cc)
stays-here P x w (Set ranges) e l h = absurd (cc)
stays-here P x w LineEnd e l h = absurd (cc)
stays-here P x w FileStart e l h = absurd (cc)
stays-here P x w FileStop e l h = absurd (cc)
stays-here P x w (LineNumber how number) e l h = absurd (cc)
stays-here P x w (Ref number) e l h = absurd (cc)
stays-here P x w (ExternalRef number) e l h = absurd (cc)

pub leads-still : (sets : Sets) (ignore : Bool) (a : Atom) (s : Counted) → is_plain a ≡ false → is_lined_atom a ≡ true → Leads sets ignore (one a) s s
leads-still sets ignore a s plain lined x l first at c hs hi sec w h = stays-here (StandsAt l first at c s) x w a plain lined h

-- ---- atoms of characters

-- what an atom takes leads from the one to the other
pub record Takes (sets : Sets) (ignore : Bool) (a : Atom) (s r : Counted) : Type 0 where
  pub none : (d : ℕ) → plain_takes sets ignore a d ≡ true → is_blank d ≡ true → s.none ≡ true → r.none ≡ true
  pub first : (d : ℕ) → plain_takes sets ignore a d ≡ true → is_blank d ≡ false → s.none ≡ true → r.one ≡ true
  pub one : (d : ℕ) → plain_takes sets ignore a d ≡ true → is_blank d ≡ true → s.one ≡ true → r.one ≡ true
  pub second : (d : ℕ) → plain_takes sets ignore a d ≡ true → is_blank d ≡ false → s.one ≡ true → holds r.two d ≡ true
  pub two : (d : ℕ) → holds s.two d ≡ true → holds r.two d ≡ true

just-after : (l at : ℕ) (p : Place) → p.line ≡ l → p.col ≡ at → is_after (behind_character p) (place l at) ≡ true
just-after l at p on e = grind (arith, nat_tests, on, e)

still-after : (l at : ℕ) (p : Place) → is_after p (place l at) ≡ true → is_after (behind_character p) (place l at) ≡ true
still-after l at p e = grind (arith, nat_tests, e)

stands-step : (sets : Sets) (ignore : Bool) (a : Atom) (s r : Counted) → Takes sets ignore a s r → (chars : List ℕ) (l first at c : ℕ) → IsSecondAt chars c first at →
    (p : Place) (d : ℕ) → (p.line ≡ l → slice_get chars p.col ≡ Some d) → plain_takes sets ignore a d ≡ true → StandsAt l first at c s p → StandsAt l first at c r (behind_character p)
stands-step sets ignore a s r takes chars l first at c sec p d there taken (inl none) = elim (cases_lt p.col first) [
  | inl before ↦ inl (takes.none d taken (sec.before p.col d before (there none.1.0)) none.0, (none.1.0, omega (arith, before)))
  | inr late ↦
      let same : p.col ≡ first = omega (arith, late, none.1.1) in
      inr (inl (takes.first d taken (sec.nonblank d (subst (λ k. slice_get chars k ≡ Some d) same (there none.1.0))) none.0, (none.1.0, (omega (arith, same), omega (arith, same, sec.later)))))
]
stands-step sets ignore a s r takes chars l first at c sec p d there taken (inr (inl it)) = elim (cases_lt p.col at) [
  | inl before ↦ inr (inl (takes.one d taken (sec.between p.col d it.1.1.0 before (there it.1.0)) it.0, (it.1.0, (omega (arith, it.1.1.0), omega (arith, before)))))
  | inr late ↦
      let same : p.col ≡ at = omega (arith, late, it.1.1.1) in
      let is : d ≡ c = same_Some d c (sym (subst (λ k. slice_get chars k ≡ Some d) same (there it.1.0)) ∙ sec.there) in
      let nonblank : is_blank d ≡ false = subst (λ k. is_blank k ≡ false) (sym is) sec.too in
      inr (inr (subst (λ k. holds r.two k ≡ true) is (takes.second d taken nonblank it.0), just-after l at p it.1.0 same))
]
stands-step sets ignore a s r takes chars l first at c sec p d there taken (inr (inr two)) = inr (inr (takes.two c two.0, still-after l at p two.1))

plain-at : (w : Way) (q : Place) (a : Atom) → is_plain a ≡ true → (way_behind w q a).at ≡ q
plain-at w q (Char c) e = refl
plain-at w q (Any takes_end) e = refl
plain-at w q (Is class negative takes_end) e = refl
plain-at w q (Set ranges) e = refl
plain-at w q LineEnd e = refl
plain-at w q LineStart e = refl
plain-at w q LineStop e = refl
plain-at w q WordStart e = refl
plain-at w q WordStop e = refl
plain-at w q FileStart e = refl
plain-at w q FileStop e = refl
plain-at w q MatchStart e = absurd (cc)
plain-at w q MatchStop e = absurd (cc)
plain-at w q (LineNumber how number) e = refl
plain-at w q (Ref number) e = refl
plain-at w q (ExternalRef number) e = refl

step-if : (P : Place → Type 0) (w : Way) (a : Atom) (b : Bool) → is_plain a ≡ true → (b ≡ true → P (behind_character w.at)) → AllWays (λ v. P v.at) (behind_fit w a (only_if b (behind_character w.at)))
step-if P w a true plain h = (subst P (sym (plain-at w (behind_character w.at) a plain)) (h refl), tt)
step-if P w a false plain h = tt

pub fit-step : (P : Place → Type 0) (sets : Sets) (ignore : Bool) (w : Way) (a : Atom) (o : Option ℕ) → is_plain a ≡ true → ((d : ℕ) → o ≡ Some d → plain_takes sets ignore a d ≡ true → P (behind_character w.at)) →
    AllWays (λ v. P v.at) (behind_fit w a (only_if (plain_fits sets ignore o a) (behind_character w.at)))
fit-step P sets ignore w a None plain h = tt
fit-step P sets ignore w a (Some d) plain h = step-if P w a (plain_takes sets ignore a d) plain (λ e. h d refl e)

pub leads-plain : (sets : Sets) (ignore : Bool) (a : Atom) (s r : Counted) → is_plain a ≡ true → Takes sets ignore a s r → Leads sets ignore (one a) s r
leads-plain sets ignore a s r plain takes x l first at c hs hi sec w h =
    let here : Takes x.sets x.ignore a s r = subst (λ i. Takes x.sets i a s r) (sym hi) (subst (λ k. Takes k ignore a s r) (sym hs) takes) in
    subst (λ o. AllWays (λ v. StandsAt l first at c r v.at) (behind_fit w a o)) (sym (fits-told x w a plain))
    (fit-step (StandsAt l first at c r) x.sets x.ignore w a (character_at x.text w.at) plain
    (λ d e taken. stands-step x.sets x.ignore a s r here (line_at x.text l) l first at c sec w.at d (λ on. subst (λ k. slice_get (line_at x.text k) w.at.col ≡ Some d) on e) taken h))

pub either-true : (b : Bool) → (b || true) ≡ true
either-true true = refl
either-true false = refl

pub is-same : (a b : ℕ) → nat_eq a b ≡ true → a ≡ b
is-same a b e = grind (arith, nat_tests)

pub blank-taken : (f : ℕ → Bool) (d : ℕ) → f d ≡ true → is_blank d ≡ true → (f 32 || f 9) ≡ true
blank-taken f d e b = elim (or_cases (nat_eq d 32) (nat_eq d 9) b) [
  | inl space ↦ ap (λ t. t || f 9) (subst (λ k. f k ≡ true) (is-same d 32 space) e)
  | inr tab ↦ ap (λ t. f 32 || t) (subst (λ k. f k ≡ true) (is-same d 9 tab) e) ∙ either-true (f 32)
]

pub takes-by : (sets : Sets) (ignore : Bool) (a : Atom) (s : Counted) (blank : Bool) (two : Characters) → blank ≡ (plain_takes sets ignore a 32 || plain_takes sets ignore a 9) →
    ((c : ℕ) → holds s.two c ≡ true → holds two c ≡ true) → ((c : ℕ) → s.one ≡ true → plain_takes sets ignore a c ≡ true → holds two c ≡ true) →
    Takes sets ignore a s (record { none = s.none && blank; one = s.none || (s.one && blank); two = two })
takes-by sets ignore a s blank two is kept taken =
    let some : (d : ℕ) → plain_takes sets ignore a d ≡ true → is_blank d ≡ true → blank ≡ true = λ d t b. is ∙ blank-taken (plain_takes sets ignore a) d t b in
    record {
      none = λ d t b e. ap (λ n. n && blank) e ∙ some d t b;
      first = λ d t b e. ap (λ n. n || (s.one && blank)) e;
      one = λ d t b e. ap (λ n. s.none || (n && blank)) e ∙ ap (λ n. s.none || n) (some d t b) ∙ either-true s.none;
      second = λ d t b e. taken d e t;
      two = λ d e. kept d e;
    }

-- ---- blanks

takes-blanks : (sets : Sets) (ignore : Bool) (s : Counted) → Takes sets ignore (Is White false false) s s
takes-blanks sets ignore s = record {
  none = λ d t b e. e;
  first = λ d t b e. absurd (true-or (is_blank d) t b);
  one = λ d t b e. e;
  second = λ d t b e. absurd (true-or (is_blank d) t b);
  two = λ d e. e;
}

pub leads-blank : (sets : Sets) (ignore : Bool) (s : Counted) → Leads sets ignore (one (Is White false false)) s s
leads-blank sets ignore s = leads-plain sets ignore (Is White false false) s s refl (takes-blanks sets ignore s)

pub leads-blank-atom : (sets : Sets) (ignore : Bool) (a : Atom) (s : Counted) → a ≡ Is White false false → Leads sets ignore (one a) s s
leads-blank-atom sets ignore a s same = subst (λ b. Leads sets ignore (one b) s s) (sym same) (leads-blank sets ignore s)

pub leads-blanks : (sets : Sets) (ignore : Bool) (part : Shape) (least : ℕ) (most : Option ℕ) (lazy : Bool) (s : Counted) → part ≡ one (Is White false false) → Leads sets ignore (repeat part least most lazy) s s
leads-blanks sets ignore part least most lazy s same x l first at c hs hi sec w h =
    let P : Way → Type 0 = λ v. StandsAt l first at c s v.at in
    let keeps : (v : Way) → P v → AllMarks Anything P (visits x part v) = λ v k.
    marks-of P (visits x part v) (subst (λ q. AllWays P (visits x q v)) (sym same) (leads-blank sets ignore s x l first at c hs hi sec v k)) in
    ways-of-all P (visits x (repeat part least most lazy) w) (turns-all Anything P x.text (visits x part) lazy keeps least most w h)

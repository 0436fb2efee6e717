-- Where parts lead, by the last character before that isn't a blank.
use Rattle.std.proofs.Common.{◌≡◌, inl, inr, ℕ, Bool, true, false, List, [], ◌∷◌, length, refl, sym, ap, ◌∙◌, arith, subst}
use Rattle.std.specs.Prelude.{Option, Some, ◌||◌, nat_eq, slice_get}
use Rattle.std.proofs.lemmas.Bool.{cases_lt}
use Rattle.std.proofs.lemmas.Option.{same_Some}
use Rattle.char_class.specs.declared.sets.Sets.{Sets}
use Rattle.syn_base.specs.declared.class.Class.TheVariants.{White}
use Rattle.syn_base.specs.declared.places.Place.{Place}
use Rattle.pattern_items.specs.declared.atom.Atom.{Atom}
use Rattle.pattern_items.specs.declared.atom.Atom.TheVariants.{Is, LineStop}
use Rattle.vim_pattern.specs.Shape.{Shape, one, seq, or, group, repeat}
use Rattle.match_rules.specs.Ways.{Context, Way, behind_character, line_at}
use Rattle.match_rules.specs.Atoms.{character_at, only_if}
use Rattle.match_rules.specs.Marks.{Mark, Tick, Reach}
use Rattle.match_rules.specs.Visits.{behind_fit, noted, visits}
use Rattle.match_rules.proofs.AllMarks.{AllMarks, turns-all}
use Rattle.match_rules.proofs.MarkLaws.{AllWays, AllWays-append, AllWays-followed}
use Rattle.pattern_screens.specs.Lined.{is_lined_atom}
use Rattle.pattern_screens.specs.PlainAtoms.{is_plain, plain_takes}
use Rattle.pattern_screens.proofs.FirstScreens.{fits-told}
use Rattle.pattern_needs.specs.Characters.{holds}
use Rattle.pattern_needs.specs.Fronts.{piece, stopped}
use Rattle.pattern_needs.specs.Endings.{EndsAmong, IsAmong, IsEndOfLine, IsLastBefore, IsLastOf, LeadsAmong, LeavesLine}
use Rattle.pattern_needs.specs.Nonblanks.{is_blank}
use Rattle.pattern_needs.specs.declared.characters.Characters.{Characters}
use Rattle.pattern_needs.proofs.Forwards.{Anything, ways-of-all}
use Rattle.pattern_needs.proofs.LeadLaws.{blank-taken, either-true, fit-step, is-same, marks-of, stays-here, true-or, ways-map}

-- ---- parts

pub leads-seq : (sets : Sets) (ignore : Bool) (a b : Shape) (s t r : Characters) → LeadsAmong sets ignore a s t → LeadsAmong sets ignore b t r → LeadsAmong sets ignore (seq a b) s r
leads-seq sets ignore a b s t r f g x l hs hi w h =
    AllWays-followed (λ v. EndsAmong x l t v.at) (λ v. EndsAmong x l r v.at) (visits x a w) (visits x b) (f x l hs hi w h) (λ v k. g x l hs hi v k)

pub leads-or : (sets : Sets) (ignore : Bool) (a b : Shape) (s r : Characters) → LeadsAmong sets ignore a s r → LeadsAmong sets ignore b s r → LeadsAmong sets ignore (or a b) s r
leads-or sets ignore a b s r f g x l hs hi w h =
    AllWays-append (λ v. EndsAmong x l r v.at) (visits x a w) (visits x b w) (f x l hs hi w h) (g x l hs hi w h)

pub leads-group : (sets : Sets) (ignore : Bool) (part : Shape) (number : ℕ) (s r : Characters) → LeadsAmong sets ignore part s r → LeadsAmong sets ignore (group part number) s r
leads-group sets ignore part number s r f x l hs hi w h =
    AllWays-followed (λ v. EndsAmong x l r v.at) (λ v. EndsAmong x l r v.at) (visits x part w) (noted number w.at) (f x l hs hi w h) (λ v k. (k, tt))

pub leads-wider : (sets : Sets) (ignore : Bool) (node : Shape) (s t r : Characters) → IsAmong t r → LeadsAmong sets ignore node s t → LeadsAmong sets ignore node s r
leads-wider sets ignore node s t r wide f x l hs hi w h =
    ways-map (λ v. EndsAmong x l t v.at) (λ v. EndsAmong x l r v.at) (visits x node w) (λ v k on c at last. wide c (k on c at last)) (f x l hs hi w h)

each-way : (P : Way → Type 0) (marks : List Mark) → ((v : Way) → P v) → AllWays P marks
each-way P [] h = tt
each-way P (Tick l ∷ marks) h = each-way P marks h
each-way P (Reach w ∷ marks) h = (h w, each-way P marks h)

pub leads-all : (sets : Sets) (ignore : Bool) (node : Shape) (s r : Characters) → ((c : ℕ) → holds r c ≡ true) → LeadsAmong sets ignore node s r
leads-all sets ignore node s r all x l hs hi w h = each-way (λ v. EndsAmong x l r v.at) (visits x node w) (λ v on c at last. all c)

pub leads-still : (sets : Sets) (ignore : Bool) (a : Atom) (s : Characters) → is_plain a ≡ false → is_lined_atom a ≡ true → LeadsAmong sets ignore (one a) s s
leads-still sets ignore a s plain lined x l hs hi w h = stays-here (EndsAmong x l s) x w a plain lined h

-- ---- atoms of characters

-- a blank that an atom takes keeps what was the last before, and another one is the last
pub record TakesAmong (sets : Sets) (ignore : Bool) (a : Atom) (s r : Characters) : Type 0 where
  pub kept : (d c : ℕ) → plain_takes sets ignore a d ≡ true → is_blank d ≡ true → holds s c ≡ true → holds r c ≡ true
  pub taken : (d : ℕ) → plain_takes sets ignore a d ≡ true → is_blank d ≡ false → holds r d ≡ true

ends-step : (sets : Sets) (ignore : Bool) (a : Atom) (s r : Characters) → TakesAmong sets ignore a s r → (x : Context) (l : ℕ) (p : Place) (d : ℕ) → character_at x.text p ≡ Some d → plain_takes sets ignore a d ≡ true →
    EndsAmong x l s p → EndsAmong x l r (behind_character p)
ends-step sets ignore a s r takes x l p d there taken h on c at last =
    let here : slice_get (line_at x.text l) p.col ≡ Some d = subst (λ k. slice_get (line_at x.text k) p.col ≡ Some d) on there in
    elim (cases_lt at p.col) [
      | inl earlier ↦
          takes.kept d c taken (last.between p.col d earlier (omega arith) here)
          (h on c at (record { there = last.there; nonblank = last.nonblank; before = earlier; between = λ i e above below. last.between i e above (omega (arith, below)) }))
      | inr late ↦
          let same : at ≡ p.col = omega (arith, late, last.before) in
          let is : d ≡ c = same_Some d c (sym here ∙ subst (λ k. slice_get (line_at x.text l) k ≡ Some c) same last.there) in
          subst (λ k. holds r k ≡ true) is (takes.taken d taken (subst (λ k. is_blank k ≡ false) (sym is) last.nonblank))
    ]

pub leads-plain : (sets : Sets) (ignore : Bool) (a : Atom) (s r : Characters) → is_plain a ≡ true → TakesAmong sets ignore a s r → LeadsAmong sets ignore (one a) s r
leads-plain sets ignore a s r plain takes x l hs hi w h =
    let here : TakesAmong x.sets x.ignore a s r = subst (λ i. TakesAmong x.sets i a s r) (sym hi) (subst (λ k. TakesAmong k ignore a s r) (sym hs) takes) in
    subst (λ o. AllWays (λ v. EndsAmong x l r v.at) (behind_fit w a o)) (sym (fits-told x w a plain))
    (fit-step (EndsAmong x l r) x.sets x.ignore w a (character_at x.text w.at) plain (λ d e taken. ends-step x.sets x.ignore a s r here x l w.at d e taken h))

pub takes-with : (sets : Sets) (ignore : Bool) (a : Atom) (s codes r : Characters) → ((c : ℕ) → plain_takes sets ignore a c ≡ true → holds codes c ≡ true) → ((c : ℕ) → holds r c ≡ (holds codes c || holds s c)) → TakesAmong sets ignore a s r
takes-with sets ignore a s codes r taken is = record {
  kept = λ d c t b e. is c ∙ ap (λ k. holds codes c || k) e ∙ either-true (holds codes c);
  taken = λ d t b. is d ∙ ap (λ k. k || holds s d) (taken d t);
}

pub takes-nonblanks : (sets : Sets) (ignore : Bool) (a : Atom) (s codes : Characters) → (plain_takes sets ignore a 32 || plain_takes sets ignore a 9) ≡ false → ((c : ℕ) → plain_takes sets ignore a c ≡ true → holds codes c ≡ true) → TakesAmong sets ignore a s codes
takes-nonblanks sets ignore a s codes none taken = record {
  kept = λ d c t b e. absurd (true-or _ (blank-taken (plain_takes sets ignore a) d t b) none);
  taken = λ d t b. taken d t;
}

-- ---- blanks

takes-blanks : (sets : Sets) (ignore : Bool) (s : Characters) → TakesAmong sets ignore (Is White false false) s s
takes-blanks sets ignore s = record {
  kept = λ d c t b e. e;
  taken = λ d t b. absurd (true-or (is_blank d) t b);
}

leads-blank : (sets : Sets) (ignore : Bool) (s : Characters) → LeadsAmong sets ignore (one (Is White false false)) s s
leads-blank sets ignore s = leads-plain sets ignore (Is White false false) s s refl (takes-blanks sets ignore s)

pub leads-blank-atom : (sets : Sets) (ignore : Bool) (a : Atom) (s : Characters) → a ≡ Is White false false → LeadsAmong sets ignore (one a) s s
leads-blank-atom sets ignore a s same = subst (λ b. LeadsAmong sets ignore (one b) s s) (sym same) (leads-blank sets ignore s)

pub leads-blanks : (sets : Sets) (ignore : Bool) (part : Shape) (least : ℕ) (most : Option ℕ) (lazy : Bool) (s : Characters) → part ≡ one (Is White false false) → LeadsAmong sets ignore (repeat part least most lazy) s s
leads-blanks sets ignore part least most lazy s same x l hs hi w h =
    let P : Way → Type 0 = λ v. EndsAmong x l s v.at in
    let keeps : (v : Way) → P v → AllMarks Anything P (visits x part v) = λ v k.
    marks-of P (visits x part v) (subst (λ q. AllWays P (visits x q v)) (sym same) (leads-blank sets ignore s x l hs hi v k)) in
    ways-of-all P (visits x (repeat part least most lazy) w) (turns-all Anything P x.text (visits x part) lazy keeps least most w h)

-- ---- at a line's end

-- from ways that end among the ones no way of a part stays in a line whose last is none of the others
abbrev pub LeavesFrom : Sets → Bool → Shape → Characters → Characters → Type 0
LeavesFrom sets ignore node from characters =
    (x : Context) (l c : ℕ) → x.sets ≡ sets → x.ignore ≡ ignore → IsLastOf (line_at x.text l) c → holds characters c ≡ false →
    (w : Way) → EndsAmong x l from w.at → AllWays (λ v. v.at.line ≡ l → ⊥) (visits x node w)

pub leaves-seq : (sets : Sets) (ignore : Bool) (a b : Shape) (s t r : Characters) → LeadsAmong sets ignore a s t → LeavesFrom sets ignore b t r → LeavesFrom sets ignore (seq a b) s r
leaves-seq sets ignore a b s t r f g x l c hs hi last apart w h =
    AllWays-followed (λ v. EndsAmong x l t v.at) (λ v. v.at.line ≡ l → ⊥) (visits x a w) (visits x b) (f x l hs hi w h) (λ v k. g x l c hs hi last apart v k)

stop-if : (P : Place → Type 0) (w : Way) (b : Bool) → (b ≡ true → P w.at) → AllWays (λ v. P v.at) (behind_fit w LineStop (only_if b w.at))
stop-if P w true h = (h refl, tt)
stop-if P w false h = tt

pub leaves-stop : (sets : Sets) (ignore : Bool) (some : Characters) → LeavesFrom sets ignore (one LineStop) some some
leaves-stop sets ignore some x l c hs hi last apart w h =
    stop-if (λ p. p.line ≡ l → ⊥) w (nat_eq w.at.col (length (line_at x.text w.at.line)))
    (λ e on.
    let same : length (line_at x.text l) ≡ w.at.col = sym (is-same w.at.col (length (line_at x.text w.at.line)) e ∙ ap (λ k. length (line_at x.text k)) on) in
    true-or _ (h on c last.0 (subst (λ k. IsLastBefore (line_at x.text l) k c last.0) same last.1)) apart)

pub leaves-any : (sets : Sets) (ignore : Bool) (node : Shape) (s r : Characters) → ((c : ℕ) → holds s c ≡ true) → LeavesFrom sets ignore node s r → LeavesLine sets ignore node r
leaves-any sets ignore node s r all f x l c hs hi last apart w = f x l c hs hi last apart w (λ on d at e. all d)

-- a line end that is the last piece
pub end-stopped : (rest : Shape) → IsEndOfLine rest → (stopped rest 0 ≡ one LineStop) × (piece rest 0 ≡ rest)
end-stopped rest (inl e) = (ap (λ r. stopped r 0) e, ap (λ r. piece r 0) e ∙ sym e)
end-stopped rest (inr e) = (ap (λ r. stopped r 0) e, ap (λ r. piece r 0) e ∙ sym e)

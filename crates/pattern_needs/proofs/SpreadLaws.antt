-- How many ways and ticks parts have, by whether they begin before a blank.
use Rattle.std.proofs.Common.{◌≡◌, ◌<◌, ◌≤◌, ◌+◌, ◌*◌, ℕ, zero, suc, Bool, true, false, List, [], ◌∷◌, ◌++◌, length, refl, sym, ap, ◌∙◌, arith, subst}
use Rattle.std.specs.Prelude.{Option, Some, None, IfSome, ◌||◌, slice_get}
use Rattle.std.proofs.lemmas.Option.{slice_get_within}
use Rattle.std.proofs.Math.Nat.{suc-mul, mul-le-mul_right}
use Rattle.char_class.specs.declared.sets.Sets.{Sets}
use Rattle.syn_base.specs.declared.class.Class.TheVariants.{White}
use Rattle.syn_base.specs.declared.looked.Looked.{Looked}
use Rattle.syn_base.specs.declared.places.Place.{Place}
use Rattle.pattern_items.specs.declared.atom.Atom.{Atom}
use Rattle.pattern_items.specs.declared.atom.Atom.TheVariants.{Char, Any, Is, Set, LineEnd, LineStart, LineStop, WordStart, WordStop, FileStart, FileStop, MatchStart, MatchStop, LineNumber, Ref, ExternalRef}
use Rattle.vim_pattern.specs.Shape.{Shape, empty, one, seq, or, and, group, external, repeat, ahead, before, whole}
use Rattle.match_rules.specs.Ways.{Context, Way, is_after, line_at}
use Rattle.match_rules.specs.Atoms.{character_at}
use Rattle.match_rules.specs.Counts.{free_turns, in_order, is_spent, less_by, one_less, places_behind, turns}
use Rattle.match_rules.specs.Marks.{Mark, Tick, Reach, followed}
use Rattle.match_rules.specs.Visits.{behind_fit, noted, visits}
use Rattle.match_rules.proofs.MarkLaws.{AllWays, AllWays-append, AllWays-followed}
use Rattle.pattern_screens.specs.Lined.{is_lined_atom}
use Rattle.pattern_screens.specs.PlainAtoms.{is_plain, plain_takes}
use Rattle.pattern_screens.proofs.Bounded.{AllTicks, either, seen-append, ticks_of, ways_of}
use Rattle.pattern_screens.proofs.FirstScreens.{fits-told}
use Rattle.pattern_screens.proofs.LinedParts.{IsIn, Lined, lined}
use Rattle.pattern_screens.proofs.Stands.{LooksAt}
use Rattle.pattern_needs.specs.Fronts.{stopped}
use Rattle.pattern_needs.specs.Growths.{IsRoomOf, grown, once as single, total as room_total}
use Rattle.pattern_needs.specs.LineCosts.{Cost, cost_of}
use Rattle.pattern_needs.specs.Nonblanks.{is_blank}
use Rattle.pattern_needs.specs.Spreads.{IsSpread, Weighs, anywhere, before_blank, from_kind, has_blank, of_kind, or_spread, or_spreads, over_blanks, still, then_spread, then_spreads, total, weight}
use Rattle.pattern_needs.specs.declared.room.Room.{Room}
use Rattle.pattern_needs.specs.declared.spread.Spread.{Spread}
use Rattle.pattern_needs.specs.declared.spread.Spreads.{Spreads}
use Rattle.pattern_needs.proofs.LeadLaws.{blank-taken, fit-step, stays-here, true-or}
use Rattle.pattern_needs.proofs.CostLaws.{cost-below, same-below}
use Rattle.pattern_needs.proofs.CostWays.{by_left, cost-light, left_at, weight as weight_by}
use Rattle.pattern_needs.proofs.GrowthLaws.{grown-same, grown-times}
use Rattle.pattern_needs.proofs.LineParts.{stay-looks, stay-ways}

-- ---- weights

weight-append : (x : Context) (b o : ℕ) (a c : List Mark) → weight x b o (a ++ c) ≡ weight x b o a + weight x b o c
weight-append x b o [] c = omega arith
weight-append x b o (Tick l ∷ a) c = omega (arith, weight-append x b o a c)
weight-append x b o (Reach w ∷ a) c = omega (arith, weight-append x b o a c)

weight-followed : (x : Context) (P : Way → Type 0) (b o m n : ℕ) (a : List Mark) (f : Way → List Mark) → AllWays P a →
    ((v : Way) → P v → weight x b o (f v) ≤ of_kind m n (before_blank x v.at)) → weight x b o (followed a f) ≤ weight x m n a
weight-followed x P b o m n [] f h k = omega arith
weight-followed x P b o m n (Tick s ∷ a) f h k = omega (arith, weight-followed x P b o m n a f h k)
weight-followed x P b o m n (Reach w ∷ a) f h k = omega (arith, weight-append x b o (f w) (followed a f), k w h.0, weight-followed x P b o m n a f h.1 k)

seen-followed : (P : Way → Type 0) (Q : Looked → Type 0) (a : List Mark) (f : Way → List Mark) → AllWays P a → AllTicks Q a → ((w : Way) → P w → AllTicks Q (f w)) → AllTicks Q (followed a f)
seen-followed P Q [] f h q k = tt
seen-followed P Q (Tick l ∷ a) f h q k = (q.0, seen-followed P Q a f h q.1 k)
seen-followed P Q (Reach w ∷ a) f h q k = seen-append Q (f w) (followed a f) (k w h.0) (seen-followed P Q a f h.1 q k)

weight-few : (x : Context) (b o t : ℕ) (a : List Mark) → AllWays (λ v. of_kind b o (before_blank x v.at) ≤ t) a → weight x b o a ≤ ticks_of a + ways_of a * t
weight-few x b o t [] h = omega arith
weight-few x b o t (Tick l ∷ a) h = omega (arith, weight-few x b o t a h)
weight-few x b o t (Reach w ∷ a) h = omega (arith, weight-few x b o t a h.1, h.0, suc-mul (ways_of a) t)

each-way : (P : Way → Type 0) (marks : List Mark) → ((v : Way) → P v) → AllWays P marks
each-way P [] h = tt
each-way P (Tick l ∷ marks) h = each-way P marks h
each-way P (Reach w ∷ marks) h = (h w, each-way P marks h)

lighter : {x : Context} {l b o m n : ℕ} {a : List Mark} → Weighs x l b o m a → m ≤ n → Weighs x l b o n a
lighter h k = record { here = h.here; light = omega (arith, h.light, k); seen = h.seen }

-- of the ways more may be known
weighs-known : {x : Context} {l b o m n t : ℕ} {a : List Mark} (P : Way → Type 0) (f : Way → List Mark) → AllWays P a → Weighs x l m n t a → ((v : Way) → P v → Weighs x l b o (of_kind m n (before_blank x v.at)) (f v)) → Weighs x l b o t (followed a f)
weighs-known {x} {l} {b} {o} {m} {n} {t} {a} P f p h k = record {
  here = AllWays-followed P (λ v. IsIn x l v.at) a f p (λ v i. (k v i).here);
  light = omega (arith, h.light, weight-followed x P b o m n a f p (λ v i. (k v i).light));
  seen = seen-followed P (LooksAt l) a f p h.seen (λ v i. (k v i).seen);
}

weighs-then : {x : Context} {l b o m n t : ℕ} {a : List Mark} (f : Way → List Mark) → Weighs x l m n t a → ((v : Way) → IsIn x l v.at → Weighs x l b o (of_kind m n (before_blank x v.at)) (f v)) → Weighs x l b o t (followed a f)
weighs-then {x} {l} f h k = weighs-known (λ v. IsIn x l v.at) f h.here h k

weighs-or : {x : Context} {l b o m n : ℕ} {a c : List Mark} → Weighs x l b o m a → Weighs x l b o n c → Weighs x l b o (m + n) (a ++ c)
weighs-or {x} {l} {b} {o} {m} {n} {a} {c} h k = record {
  here = AllWays-append (λ v. IsIn x l v.at) a c h.here k.here;
  light = omega (arith, h.light, k.light, weight-append x b o a c);
  seen = seen-append (LooksAt l) a c h.seen k.seen;
}

weighs-here : (x : Context) (l b o : ℕ) (w : Way) → IsIn x l w.at → Weighs x l b o (of_kind b o (before_blank x w.at)) (Reach w ∷ [])
weighs-here x l b o w h = record { here = (h, tt); light = omega arith; seen = tt }

weighs-none : (x : Context) (l b o : ℕ) → Weighs x l b o 0 []
weighs-none x l b o = record { here = tt; light = omega arith; seen = tt }

-- marks of so many ways and ticks, where each way costs no more than this
weighs-lined : (x : Context) (l m c b o t : ℕ) (a : List Mark) → Lined x l m c a → AllWays (λ v. of_kind b o (before_blank x v.at) ≤ t) a → Weighs x l b o (ticks_of a + ways_of a * t) a
weighs-lined x l m c b o t a h k = record { here = h.here; light = weight-few x b o t a k; seen = h.seen }

either-kind : (b o : ℕ) (k : Bool) → of_kind b o k ≤ b + o
either-kind b o true = omega arith
either-kind b o false = omega arith

-- ---- parts

then-total : (s t : Spreads) (b o : ℕ) (k : Bool) → total (from_kind s k) (total t.blank b o) (total t.other b o) ≡ total (from_kind (then_spreads s t) k) b o
then-total s t b o true = omega arith
then-total s t b o false = omega arith

kind-total : (t : Spreads) (b o : ℕ) (k : Bool) → total (from_kind t k) b o ≡ of_kind (total t.blank b o) (total t.other b o) k
kind-total t b o true = refl
kind-total t b o false = refl

or-total : (s t : Spreads) (b o : ℕ) (k : Bool) → total (from_kind s k) b o + total (from_kind t k) b o ≡ total (from_kind (or_spreads s t) k) b o
or-total s t b o true = omega arith
or-total s t b o false = omega arith

still-total : (cost b o : ℕ) (k : Bool) → cost + of_kind b o k ≡ total (from_kind (still cost) k) b o
still-total cost b o true = omega arith
still-total cost b o false = omega arith

pub spread-empty : (sets : Sets) (ignore : Bool) (most : ℕ) → IsSpread sets ignore most empty (still 0)
spread-empty sets ignore most x l b o hs hi few w h =
    lighter (weighs-here x l b o w h) (omega (arith, still-total 0 b o (before_blank x w.at)))

pub spread-seq : (sets : Sets) (ignore : Bool) (most : ℕ) (p q : Shape) (s t : Spreads) → IsSpread sets ignore most p s → IsSpread sets ignore most q t → IsSpread sets ignore most (seq p q) (then_spreads s t)
spread-seq sets ignore most p q s t f g x l b o hs hi few w h =
    lighter (weighs-then (visits x q) (f x l (total t.blank b o) (total t.other b o) hs hi few w h)
    (λ v i. lighter (g x l b o hs hi few v i) (omega (arith, kind-total t b o (before_blank x v.at)))))
    (omega (arith, then-total s t b o (before_blank x w.at)))

pub spread-or : (sets : Sets) (ignore : Bool) (most : ℕ) (p q : Shape) (s t : Spreads) → IsSpread sets ignore most p s → IsSpread sets ignore most q t → IsSpread sets ignore most (or p q) (or_spreads s t)
spread-or sets ignore most p q s t f g x l b o hs hi few w h =
    lighter (weighs-or (f x l b o hs hi few w h) (g x l b o hs hi few w h)) (omega (arith, or-total s t b o (before_blank x w.at)))

pub spread-group : (sets : Sets) (ignore : Bool) (most : ℕ) (part : Shape) (number : ℕ) (s : Spreads) → IsSpread sets ignore most part s → IsSpread sets ignore most (group part number) s
spread-group sets ignore most part number s f x l b o hs hi few w h =
    weighs-then (noted number w.at) (f x l b o hs hi few w h) (λ v i. weighs-here x l b o _ i)

-- ---- parts of a room

-- a weight by kinds is no more than one that is the same for both
weight-kinds : (x : Context) (b o : ℕ) (f : Way → ℕ) (a : List Mark) → ((w : Way) → of_kind b o (before_blank x w.at) ≤ f w) → weight x b o a ≤ weight_by f a
weight-kinds x b o f [] h = omega arith
weight-kinds x b o f (Tick l ∷ a) h = omega (arith, weight-kinds x b o f a h)
weight-kinds x b o f (Reach w ∷ a) h = omega (arith, weight-kinds x b o f a h, h w)

-- so many ways, each of which costs as much
grown-flat : (p : List ℕ) (t : ℕ) (left : ℕ) → grown p (λ _. t) left ≡ grown p single left * t
grown-flat p t left = grown-same p (λ _. t) (λ i. 1 * t) (λ i. omega arith) left ∙ grown-times p single t left

pub spread-room : (sets : Sets) (ignore : Bool) (most : ℕ) (node : Shape) (room : Room) (ways cost : ℕ) → IsRoomOf node room → ways ≡ grown room.ways.by single most → cost ≡ grown room.cost.by single most →
    IsSpread sets ignore most node (record { blank = anywhere ways cost; other = anywhere ways cost })
spread-room sets ignore most node room ways cost is many ticks x l b o hs hi few w h =
    let a = visits x node w in
    let flat : Cost = λ _. b + o in
    let same : room_total room flat most ≡ cost_of node flat most = ap (λ (t : Cost → Cost). t flat most) is.same in
    let all : ways * (b + o) ≡ grown room.ways.by single most * (b + o) = ap (λ n. n * (b + o)) many in
    let light : weight x b o a ≤ cost + ways * (b + o) = omega (
      arith,
      weight-kinds x b o (by_left x l flat) a (λ v. either-kind b o (before_blank x v.at)),
      cost-light x l node is.stay flat (same-below (b + o) (b + o) (omega arith)) w h,
      cost-below node flat flat (same-below (b + o) (b + o) (omega arith)) (left_at x l w.at) most (omega (arith, few)),
      same,
      grown-flat room.ways.by (b + o) most,
      all,
      ticks,
    ) in
    lighter (record { here = stay-ways x l node is.stay w h; light = light; seen = stay-looks x l node is.stay w h }) (by (before_blank x w.at))
  where
    by : (k : Bool) → cost + ways * (b + o) ≤ total (from_kind (record { blank = anywhere ways cost; other = anywhere ways cost }) k) b o
    by true = omega arith
    by false = omega arith

pub spread-still : (sets : Sets) (ignore : Bool) (most : ℕ) (a : Atom) → is_plain a ≡ false → is_lined_atom a ≡ true → IsSpread sets ignore most (one a) (still 1)
spread-still sets ignore most a plain stays x l b o hs hi few w h =
    let marks = visits x (one a) w in
    let t = of_kind b o (before_blank x w.at) in
    let fits : Lined x l 1 1 marks = lined x l (one a) stays w h in
    let same : AllWays (λ v. of_kind b o (before_blank x v.at) ≤ t) marks = stays-here (λ p. of_kind b o (before_blank x p) ≤ t) x w a plain stays (omega arith) in
    let more : ways_of marks * t ≤ 1 * t = mul-le-mul_right t fits.few in
    lighter (weighs-lined x l 1 1 b o t marks fits same) (omega (arith, more, fits.cheap, still-total 1 b o (before_blank x w.at)))

-- ---- atoms of characters

plain-lined : (a : Atom) → is_plain a ≡ true → is_lined_atom a ≡ true
plain-lined (Char c) e = refl
plain-lined (Any takes_end) e = e
plain-lined (Is class negative takes_end) e = e
plain-lined (Set ranges) e = e
plain-lined LineEnd e = absurd (cc)
plain-lined LineStart e = refl
plain-lined LineStop e = refl
plain-lined WordStart e = refl
plain-lined WordStop e = refl
plain-lined FileStart e = absurd (cc)
plain-lined FileStop e = absurd (cc)
plain-lined MatchStart e = refl
plain-lined MatchStop e = refl
plain-lined (LineNumber how number) e = absurd (cc)
plain-lined (Ref number) e = absurd (cc)
plain-lined (ExternalRef number) e = absurd (cc)

blank-there : (q : Option ℕ) (d : ℕ) → q ≡ Some d → has_blank q ≡ is_blank d
blank-there q d e = ap has_blank e

-- where an atom takes nothing it leads nowhere
nowhere : (P : Place → Type 0) (x : Context) (w : Way) (a : Atom) → is_plain a ≡ true → ((d : ℕ) → character_at x.text w.at ≡ Some d → plain_takes x.sets x.ignore a d ≡ true → ⊥) → AllWays (λ v. P v.at) (visits x (one a) w)
nowhere P x w a plain none =
    subst (λ o. AllWays (λ v. P v.at) (behind_fit w a o)) (sym (fits-told x w a plain))
    (fit-step P x.sets x.ignore w a (character_at x.text w.at) plain (λ d e taken. absurd (none d e taken)))

one-way : (m t b o : ℕ) → m ≤ 1 → m * (b + o) ≤ b + o
one-way m t b o h = let more : m * (b + o) ≤ 1 * (b + o) = mul-le-mul_right (b + o) h in omega (arith, more)

pub spread-plain : (sets : Sets) (ignore : Bool) (most : ℕ) (a : Atom) → is_plain a ≡ true → (plain_takes sets ignore a 32 || plain_takes sets ignore a 9) ≡ false → IsSpread sets ignore most (one a) (record { blank = anywhere 0 1; other = anywhere 1 1 })
spread-plain sets ignore most a plain none x l b o hs hi few w h = by (before_blank x w.at) refl
  where
    marks : List Mark
    marks = visits x (one a) w

    fitting : Lined x l 1 1 marks
    fitting = lined x l (one a) (plain-lined a plain) w h

    apart : (plain_takes x.sets x.ignore a 32 || plain_takes x.sets x.ignore a 9) ≡ false
    apart = subst (λ i. (plain_takes x.sets i a 32 || plain_takes x.sets i a 9) ≡ false) (sym hi) (subst (λ s. (plain_takes s ignore a 32 || plain_takes s ignore a 9) ≡ false) (sym hs) none)

    by : (k : Bool) → before_blank x w.at ≡ k → Weighs x l b o (total (from_kind (record { blank = anywhere 0 1; other = anywhere 1 1 }) k) b o) marks
    by true e =
        lighter (weighs-lined x l 1 1 b o 0 marks fitting (nowhere (λ p. of_kind b o (before_blank x p) ≤ 0) x w a plain
        (λ d is taken. true-or _ (blank-taken (plain_takes x.sets x.ignore a) d taken (sym (blank-there (character_at x.text w.at) d is) ∙ e)) apart)))
        (omega (arith, fitting.cheap))
    by false e =
        lighter (weighs-lined x l 1 1 b o (b + o) marks fitting (each-way _ marks (λ v. either-kind b o (before_blank x v.at))))
        (omega (arith, fitting.cheap, one-way (ways_of marks) 0 b o fitting.few))

pub spread-any : (sets : Sets) (ignore : Bool) (most : ℕ) (a : Atom) → is_plain a ≡ true → IsSpread sets ignore most (one a) (record { blank = anywhere 1 1; other = anywhere 1 1 })
spread-any sets ignore most a plain x l b o hs hi few w h =
    let marks = visits x (one a) w in
    let fitting : Lined x l 1 1 marks = lined x l (one a) (plain-lined a plain) w h in
    lighter (weighs-lined x l 1 1 b o (b + o) marks fitting (each-way _ marks (λ v. either-kind b o (before_blank x v.at))))
    (by (before_blank x w.at) (ticks_of marks) (ways_of marks * (b + o)) fitting.cheap (one-way (ways_of marks) 0 b o fitting.few))
  where
    by : (k : Bool) (c r : ℕ) → c ≤ 1 → r ≤ b + o → c + r ≤ total (from_kind (record { blank = anywhere 1 1; other = anywhere 1 1 }) k) b o
    by true c r f g = omega (arith, f, g)
    by false c r f g = omega (arith, f, g)

-- ---- blanks

both-ways : (P Q : Way → Type 0) (a : List Mark) → AllWays P a → AllWays Q a → AllWays (λ v. P v × Q v) a
both-ways P Q [] h k = tt
both-ways P Q (Tick l ∷ a) h k = both-ways P Q a h k
both-ways P Q (Reach w ∷ a) h k = ((h.0, k.0), both-ways P Q a h.1 k.1)

abbrev blank_part : Shape
blank_part = one (Is White false false)

steps : (x : Context) (w : Way) → AllWays (λ v. v.at.col ≡ w.at.col + 1) (visits x blank_part w)
steps x w =
    subst (λ o. AllWays (λ v. v.at.col ≡ w.at.col + 1) (behind_fit w (Is White false false) o)) (sym (fits-told x w (Is White false false) refl))
    (fit-step (λ p. p.col ≡ w.at.col + 1) x.sets x.ignore w (Is White false false) (character_at x.text w.at) refl (λ d e taken. refl))

same-kind : (t : ℕ) (k : Bool) → of_kind t t k ≤ t
same-kind t true = omega arith
same-kind t false = omega arith

-- a blank that is taken, and what follows
blank-turn : (x : Context) (l b o t : ℕ) (f : Way → List Mark) (w : Way) → IsIn x l w.at → ((v : Way) → IsIn x l v.at → v.at.col ≡ w.at.col + 1 → Weighs x l b o t (f v)) →
    Weighs x l b o (1 + of_kind t 0 (before_blank x w.at)) (followed (visits x blank_part w) f)
blank-turn x l b o t f w h k =
    weighs-known (λ v. IsIn x l v.at × (v.at.col ≡ w.at.col + 1)) f (both-ways _ _ marks fitting.here (steps x w)) (by (before_blank x w.at) refl)
    (λ v i. lighter (k v i.0 i.1) (at-least (before_blank x v.at)))
  where
    marks : List Mark
    marks = visits x blank_part w

    fitting : Lined x l 1 1 marks
    fitting = lined x l blank_part refl w h

    at-least : (kind : Bool) → t ≤ of_kind t t kind
    at-least true = omega arith
    at-least false = omega arith

    by : (kind : Bool) → before_blank x w.at ≡ kind → Weighs x l t t (1 + of_kind t 0 kind) marks
    by true e =
        let more : ways_of marks * t ≤ 1 * t = mul-le-mul_right t fitting.few in
        lighter (weighs-lined x l 1 1 t t t marks fitting (each-way _ marks (λ v. same-kind t (before_blank x v.at)))) (omega (arith, fitting.cheap, more))
    by false e =
        lighter (weighs-lined x l 1 1 t t 0 marks fitting (nowhere (λ p. of_kind t t (before_blank x p) ≤ 0) x w (Is White false false) refl
        (λ d is taken. true-or (is_blank d) taken (sym (blank-there (character_at x.text w.at) d is) ∙ e))))
        (omega (arith, fitting.cheap))

-- a blank stands within its line
within-line : (x : Context) (l : ℕ) (p : Place) → IsIn x l p → before_blank x p ≡ true → p.col < length (line_at x.text l)
within-line x l p h e = by (character_at x.text p) refl
  where
    by : (q : Option ℕ) → character_at x.text p ≡ q → p.col < length (line_at x.text l)
    by None is = absurd (true-or _ e (ap has_blank is))
    by (Some c) is = slice_get_within (line_at x.text l) p.col c (subst (λ k. slice_get (line_at x.text k) p.col ≡ Some c) h.on is)

-- what the blanks behind a place cost
abbrev rest_total : ℕ → ℕ → ℕ → ℕ
rest_total k b o = (k + 1) + (k * b + o)

over-rest : (k b o : ℕ) (kind : Bool) → total (from_kind (over_blanks k) kind) b o ≤ rest_total k b o
over-rest k b o true = omega arith
over-rest k b o false = omega arith

module _ (x : Context) (l b o : ℕ) (lazy : Bool) where
  abbrev Over : ℕ → Way → List Mark → Type 0
  Over k w marks = Weighs x l b o (total (from_kind (over_blanks k) (before_blank x w.at)) b o) marks

  over-stop : (k : ℕ) (w : Way) → IsIn x l w.at → length (line_at x.text l) ≤ w.at.col + k → Over k w (Reach w ∷ [])
  over-stop k w h room = lighter (weighs-here x l b o w h) (by k (before_blank x w.at) refl room)
    where
      by : (j : ℕ) (kind : Bool) → before_blank x w.at ≡ kind → length (line_at x.text l) ≤ w.at.col + j → of_kind b o kind ≤ total (from_kind (over_blanks j) kind) b o
      by zero true e few = absurd (omega (arith, within-line x l w.at h e, few))
      by (suc j) true e few = omega (arith, suc-mul j b)
      by j false e few = omega arith

  -- a turn, and what is left
  over-turn : (k : ℕ) (w : Way) (f : Way → List Mark) → IsIn x l w.at → length (line_at x.text l) ≤ w.at.col + k →
      ((j : ℕ) (v : Way) → IsIn x l v.at → length (line_at x.text l) ≤ v.at.col + j → Weighs x l b o (rest_total j b o) (f v)) → (stop : ℕ) → stop ≤ of_kind b o (before_blank x w.at) →
      (n : ℕ) × (Weighs x l b o n (followed (visits x blank_part w) f) × (n + stop ≤ total (from_kind (over_blanks k) (before_blank x w.at)) b o))
  over-turn zero w f h room next stop is = (
    1 + of_kind 0 0 (before_blank x w.at),
    (
      blank-turn x l b o 0 f w h (λ v i e. absurd (omega (arith, i.within, e, room))),
      by (before_blank x w.at) refl is,
    ),
  )
    where
      by : (kind : Bool) → before_blank x w.at ≡ kind → stop ≤ of_kind b o kind → (1 + of_kind 0 0 kind) + stop ≤ total (from_kind (over_blanks 0) kind) b o
      by true e s = absurd (omega (arith, within-line x l w.at h e, room))
      by false e s = omega (arith, s)
  over-turn (suc j) w f h room next stop is = (
    1 + of_kind (rest_total j b o) 0 (before_blank x w.at),
    (
      blank-turn x l b o (rest_total j b o) f w h (λ v i e. next j v i (omega (arith, e, room))),
      by (before_blank x w.at) is,
    ),
  )
    where
      by : (kind : Bool) → stop ≤ of_kind b o kind → (1 + of_kind (rest_total j b o) 0 kind) + stop ≤ total (from_kind (over_blanks (suc j)) kind) b o
      by true s = omega (arith, s, suc-mul j b)
      by false s = omega (arith, s)

  over-either : (m n : ℕ) (more stop : List Mark) → Weighs x l b o m more → Weighs x l b o n stop → (order : Bool) → Weighs x l b o (m + n) (in_order order more stop)
  over-either m n more stop h k true = lighter (weighs-or k h) (omega arith)
  over-either m n more stop h k false = weighs-or h k

  over-free : (left k : ℕ) (count : Option ℕ) (w : Way) → IsIn x l w.at → length (line_at x.text l) ≤ w.at.col + k → Over k w (free_turns (visits x blank_part) lazy left count w)
  over-free zero k count w h room = over-stop k w h room
  over-free (suc left) k count w h room =
      either (Over k w) (is_spent count) (Reach w ∷ []) _ (λ _. over-stop k w h room)
      (λ _.
      let turn = over-turn k w _ h room
      (λ j v i some. either (Weighs x l b o (rest_total j b o)) (is_after v.at w.at) _ [] (λ _. lighter (over-free left j (one_less count) v i some) (over-rest j b o (before_blank x v.at))) (λ _. lighter (weighs-none x l b o) (omega arith)))
      (of_kind b o (before_blank x w.at)) (omega arith) in
      lighter (over-either turn.0 _ _ _ turn.1.0 (weighs-here x l b o w h) lazy) turn.1.1)

  over-turns : (least k : ℕ) (count : Option ℕ) (w : Way) → IsIn x l w.at → length (line_at x.text l) ≤ w.at.col + k → Over k w (turns x.text (visits x blank_part) lazy least count w)
  over-turns zero k count w h room = over-free (suc (places_behind x.text w.at)) k count w h room
  over-turns (suc least) k count w h room =
      either (Over k w) (is_spent count) (Reach w ∷ []) _ (λ _. over-stop k w h room)
      (λ _.
      let turn = over-turn k w _ h room
      (λ j v i some. either (Weighs x l b o (rest_total j b o)) (is_after v.at w.at) _ _ (λ _. lighter (over-turns least j (one_less count) v i some) (over-rest j b o (before_blank x v.at)))
      (λ _. lighter (over-free (suc (places_behind x.text v.at)) j (less_by count (suc least)) v i some) (over-rest j b o (before_blank x v.at))))
      0 (omega arith) in
      lighter turn.1.0 (omega (arith, turn.1.1)))

pub spread-blanks : (sets : Sets) (ignore : Bool) (most : ℕ) (part : Shape) (least : ℕ) (count : Option ℕ) (lazy : Bool) → part ≡ one (Is White false false) → IsSpread sets ignore most (repeat part least count lazy) (over_blanks most)
spread-blanks sets ignore most part least count lazy same x l b o hs hi few w h =
    subst (λ q. Weighs x l b o (total (from_kind (over_blanks most) (before_blank x w.at)) b o) (visits x (repeat q least count lazy) w)) (sym same)
    (over-turns x l b o lazy least most count w h (omega (arith, few)))

-- ---- a part that may be left out

stopped-turn : (part : Way → List Mark) (lazy : Bool) (left : ℕ) (v : Way) → free_turns part lazy left (Some 0) v ≡ Reach v ∷ []
stopped-turn part lazy zero v = refl
stopped-turn part lazy (suc left) v = refl

once : (sets : Sets) (ignore : Bool) (most : ℕ) (part : Shape) (lazy : Bool) (s : Spreads) → IsSpread sets ignore most part s → IsSpread sets ignore most (repeat part 0 (Some 1) lazy) (or_spreads s (still 0))
once sets ignore most part lazy s f x l b o hs hi few w h =
    let taken = weighs-then _ (f x l b o hs hi few w h) (λ v i. either (Weighs x l b o (of_kind b o (before_blank x v.at))) (is_after v.at w.at) _ []
    (λ _. subst (Weighs x l b o (of_kind b o (before_blank x v.at))) (sym (stopped-turn (visits x part) lazy (places_behind x.text w.at) v)) (weighs-here x l b o v i)) (λ _. lighter (weighs-none x l b o) (omega arith))) in
    lighter (over-either x l b o lazy _ _ _ _ taken (weighs-here x l b o w h) lazy)
    (omega (arith, or-total s (still 0) b o (before_blank x w.at), still-total 0 b o (before_blank x w.at)))

pub spread-optional : (sets : Sets) (ignore : Bool) (most : ℕ) (part : Shape) (least : ℕ) (count : Option ℕ) (lazy : Bool) (s : Spreads) → least ≡ 0 → count ≡ Some 1 → IsSpread sets ignore most part s → IsSpread sets ignore most (repeat part least count lazy) (or_spreads s (still 0))
spread-optional sets ignore most part least count lazy s zero-is one-is f =
    subst (λ n. IsSpread sets ignore most (repeat part n count lazy) (or_spreads s (still 0))) (sym zero-is)
    (subst (λ c. IsSpread sets ignore most (repeat part 0 c lazy) (or_spreads s (still 0))) (sym one-is) (once sets ignore most part lazy s f))

-- ---- piece by piece, and branch by branch

then-one : (a : Spread) (t r : Spreads) → then_spread (then_spread a t) r ≡ then_spread a (then_spreads t r)
then-one a t r =
    let left = then_spread (then_spread a t) r in
    let right = then_spread a (then_spreads t r) in
    let cost : left.cost ≡ right.cost = omega arith in
    let blanks : left.blanks ≡ right.blanks = omega arith in
    let others : left.others ≡ right.others = omega arith in
    λ i. record { cost = cost i; blanks = blanks i; others = others i }

pub then-then : (s t r : Spreads) → then_spreads (then_spreads s t) r ≡ then_spreads s (then_spreads t r)
then-then s t r = λ i. record { blank = then-one s.blank t r i; other = then-one s.other t r i }

or-one : (a t r : Spread) → or_spread (or_spread a t) r ≡ or_spread a (or_spread t r)
or-one a t r =
    let left = or_spread (or_spread a t) r in
    let right = or_spread a (or_spread t r) in
    let cost : left.cost ≡ right.cost = omega arith in
    let blanks : left.blanks ≡ right.blanks = omega arith in
    let others : left.others ≡ right.others = omega arith in
    λ i. record { cost = cost i; blanks = blanks i; others = others i }

pub or-or : (s t r : Spreads) → or_spreads (or_spreads s t) r ≡ or_spreads s (or_spreads t r)
or-or s t r = λ i. record { blank = or-one s.blank t.blank r.blank i; other = or-one s.other t.other r.other i }

pub with-both : (P : Spreads → Type 0) (a b p q : Spread) → p ≡ a → q ≡ b → P (record { blank = a; other = b }) → P (record { blank = p; other = q })
with-both P a b p q e f h = subst (λ (s : Spread). P (record { blank = s; other = q })) (sym e) (subst (λ (s : Spread). P (record { blank = a; other = s })) (sym f) h)

pub some-map : (P Q : Spreads → Type 0) (r : Option Spreads) → IfSome r P → ((s : Spreads) → P s → Q s) → IfSome r Q
some-map P Q None h f = tt
some-map P Q (Some s) h f = f s h

pub then-more : (sets : Sets) (ignore : Bool) (most : ℕ) (all p q rest : Shape) (known s more : Spreads) → rest ≡ seq p q → more ≡ then_spreads known s → IsSpread sets ignore most p s →
    ((t : Spreads) → IsSpread sets ignore most rest t → IsSpread sets ignore most all (then_spreads known t)) → (t : Spreads) → IsSpread sets ignore most q t → IsSpread sets ignore most all (then_spreads more t)
then-more sets ignore most all p q rest known s more e is f g t h =
    subst (IsSpread sets ignore most all) (sym (ap (λ (m : Spreads). then_spreads m t) is ∙ then-then known s t))
    (g (then_spreads s t) (subst (λ n. IsSpread sets ignore most n (then_spreads s t)) (sym e) (spread-seq sets ignore most p q s t f h)))

pub or-more : (sets : Sets) (ignore : Bool) (most : ℕ) (all p q rest : Shape) (known s more : Spreads) → rest ≡ or p q → more ≡ or_spreads known s → IsSpread sets ignore most p s →
    ((t : Spreads) → IsSpread sets ignore most rest t → IsSpread sets ignore most all (or_spreads known t)) → (t : Spreads) → IsSpread sets ignore most q t → IsSpread sets ignore most all (or_spreads more t)
or-more sets ignore most all p q rest known s more e is f g t h =
    subst (IsSpread sets ignore most all) (sym (ap (λ (m : Spreads). or_spreads m t) is ∙ or-or known s t))
    (g (or_spreads s t) (subst (λ n. IsSpread sets ignore most n (or_spreads s t)) (sym e) (spread-or sets ignore most p q s t f h)))

-- behind what stays where it is
pub behind-still : (t : Spreads) → then_spreads (still 0) t ≡ t
behind-still t =
    let all = then_spreads (still 0) t in
    let a : all.blank.cost ≡ t.blank.cost = omega arith in
    let b : all.blank.blanks ≡ t.blank.blanks = omega arith in
    let c : all.blank.others ≡ t.blank.others = omega arith in
    let d : all.other.cost ≡ t.other.cost = omega arith in
    let e : all.other.blanks ≡ t.other.blanks = omega arith in
    let f : all.other.others ≡ t.other.others = omega arith in
    λ i. record { blank = record { cost = a i; blanks = b i; others = c i }; other = record { cost = d i; blanks = e i; others = f i } }

pub ticks-weigh : (x : Context) (b o : ℕ) (a : List Mark) → ticks_of a ≤ weight x b o a
ticks-weigh x b o [] = omega arith
ticks-weigh x b o (Tick l ∷ a) = omega (arith, ticks-weigh x b o a)
ticks-weigh x b o (Reach w ∷ a) = omega (arith, ticks-weigh x b o a)

pub cost-kind : (s : Spreads) (budget : ℕ) → s.blank.cost ≤ budget → s.other.cost ≤ budget → (k : Bool) → total (from_kind s k) 0 0 ≤ budget
cost-kind s budget f g true = omega (arith, f)
cost-kind s budget f g false = omega (arith, g)

-- before all pieces there is the place at a line's end alone
pub stopped-first : (node : Shape) → stopped node 0 ≡ one LineStop
stopped-first empty = refl
stopped-first (one a) = refl
stopped-first (seq a b) = refl
stopped-first (or a b) = refl
stopped-first (and a b) = refl
stopped-first (group part number) = refl
stopped-first (external part number) = refl
stopped-first (repeat part least most lazy) = refl
stopped-first (ahead part negative) = refl
stopped-first (before part negative limit) = refl
stopped-first (whole part) = refl

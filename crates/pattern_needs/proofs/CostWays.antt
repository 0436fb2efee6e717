-- The marks of a part that stays in its line cost no more than it is counted to cost.
use Rattle.std.proofs.Common.{◌≡◌, ◌≤◌, ◌<◌, ◌+◌, ◌*◌, ◌-◌, ℕ, zero, suc, Bool, true, false, List, [], ◌∷◌, ◌++◌, length, refl, arith, subst}
use Rattle.std.specs.Prelude.{Option, Some, None, nat_lt, if◌then◌else◌}
use Rattle.std.proofs.lemmas.Bool.{and_parts}
use Rattle.std.proofs.lemmas.Bool.Decides.{nat_tests}
use Rattle.std.proofs.Math.Nat.{suc-mul, mul-le-mul_right}
use Rattle.syn_base.specs.declared.places.Place.{Place}
use Rattle.pattern_items.specs.declared.atom.Atom.{Atom}
use Rattle.vim_pattern.specs.Shape.{Shape, empty, one, seq, or, and, group, external, repeat, ahead, before, whole}
use Rattle.match_rules.specs.Ways.{Context, Way, is_after, line_at}
use Rattle.match_rules.specs.Counts.{free_turns, in_order, is_spent, less_by, one_less, places_behind, turns}
use Rattle.match_rules.specs.Looks.{look, look_end}
use Rattle.match_rules.specs.Marks.{Mark, Tick, Reach, first_way, followed, reach_if, ticks_first}
use Rattle.match_rules.specs.Visits.{noted, noted_external, visits}
use Rattle.match_rules.proofs.MarkLaws.{AllWays}
use Rattle.pattern_screens.specs.Lined.{is_few, is_lined_atom}
use Rattle.pattern_screens.proofs.Bounded.{either, ticks_of, ways_of}
use Rattle.pattern_screens.proofs.LinedParts.{IsIn, Lined, lined}
use Rattle.pattern_screens.proofs.RoomParts.{column-behind}
use Rattle.pattern_needs.specs.LineCosts.{Cost, cost_of, counted, endless, limited, nothing, stays, unlimited}
use Rattle.pattern_needs.proofs.CostLaws.{IsBelow, Adds, Keeps, cost-adds, cost-below, endless-adds, limited-adds, limited-below, limited-more, nothing-below, same-below}
use Rattle.pattern_needs.proofs.LineParts.{IsFrom, in-line, look-stays, ways-onwards}

-- ---- marks, where each way costs something further

abbrev pub weight : (Way → ℕ) → List Mark → ℕ
weight f [] = 0
weight f (Tick l ∷ marks) = suc (weight f marks)
weight f (Reach w ∷ marks) = f w + weight f marks

pub weight-append : (f : Way → ℕ) (a b : List Mark) → weight f (a ++ b) ≡ weight f a + weight f b
weight-append f [] b = omega arith
weight-append f (Tick l ∷ a) b = omega (arith, weight-append f a b)
weight-append f (Reach w ∷ a) b = omega (arith, weight-append f a b)

pub weight-followed : (P : Way → Type 0) (f g : Way → ℕ) (a : List Mark) (next : Way → List Mark) → AllWays P a → ((v : Way) → P v → weight f (next v) ≤ g v) → weight f (followed a next) ≤ weight g a
weight-followed P f g [] next h k = omega arith
weight-followed P f g (Tick l ∷ a) next h k = omega (arith, weight-followed P f g a next h k)
weight-followed P f g (Reach w ∷ a) next h k = omega (arith, weight-append f (next w) (followed a next), k w h.0, weight-followed P f g a next h.1 k)

weight-few : (P : Way → Type 0) (f : Way → ℕ) (most : ℕ) (a : List Mark) → AllWays P a → ((v : Way) → P v → f v ≤ most) → weight f a ≤ ticks_of a + ways_of a * most
weight-few P f most [] h k = omega arith
weight-few P f most (Tick l ∷ a) h k = omega (arith, weight-few P f most a h k)
weight-few P f most (Reach w ∷ a) h k = omega (arith, weight-few P f most a h.1 k, k w h.0, suc-mul (ways_of a) most)

pub ticks-weigh : (f : Way → ℕ) (a : List Mark) → ticks_of a ≤ weight f a
ticks-weigh f [] = omega arith
ticks-weigh f (Tick l ∷ a) = omega (arith, ticks-weigh f a)
ticks-weigh f (Reach w ∷ a) = omega (arith, ticks-weigh f a)

weight-order : (f : Way → ℕ) (lazy : Bool) (more stop : List Mark) → weight f (in_order lazy more stop) ≡ weight f more + weight f stop
weight-order f true more stop = omega (arith, weight-append f stop more)
weight-order f false more stop = weight-append f more stop

-- up to the first way, and what ends it
weight-ended : (f g : Way → ℕ) (a b : List Mark) → weight f (ticks_first a ++ b) ≤ weight g a + weight f b
weight-ended f g [] b = omega arith
weight-ended f g (Tick l ∷ a) b = omega (arith, weight-ended f g a b)
weight-ended f g (Reach w ∷ a) b = omega arith

-- the first way is one of them
weight-first : (P : Way → Type 0) (f : Way → ℕ) (most : ℕ) (a : List Mark) → AllWays P a → ((v : Way) → P v → f v ≤ most) → weight f (reach_if (first_way a)) ≤ most
weight-first P f most [] h k = omega arith
weight-first P f most (Tick l ∷ a) h k = weight-first P f most a h k
weight-first P f most (Reach w ∷ a) h k = omega (arith, k w h.0)

-- ---- in a line

module _ (x : Context) (line : ℕ) where
  -- how many characters are left
  abbrev pub left_at : Place → ℕ
  left_at p = length (line_at x.text line) - p.col

  abbrev pub by_left : Cost → Way → ℕ
  by_left f v = f (left_at v.at)

  look-ends : (negative : Bool) (w : Way) (f : Cost) (o : Option Way) → weight (by_left f) (look_end negative w o) ≤ f (left_at w.at)
  look-ends true w f None = omega arith
  look-ends true w f (Some v) = omega arith
  look-ends false w f None = omega arith
  look-ends false w f (Some v) = omega arith

  look-light : (negative : Bool) (w : Way) (f : Cost) (a : List Mark) → weight (by_left f) (look negative w a) ≤ weight (by_left nothing) a + f (left_at w.at)
  look-light negative w f a =
      omega (arith, weight-ended (by_left f) (by_left nothing) a (look_end negative w (first_way a)), look-ends negative w f (first_way a))

  -- behind a place fewer are left
  fewer-left : (p q : Place) → IsIn x line p → IsIn x line q → is_after q p ≡ true → left_at q < left_at p
  fewer-left p q h k e = omega (arith, column-behind line q p k.on h.on e, k.within)

  no-more-left : (p q : Place) → IsFrom x line p.col q → left_at q ≤ left_at p
  no-more-left p q h = omega (arith, h.from)

  -- ---- counts

  module _ (part : Way → List Mark) (lazy : Bool) (cost : Cost → Cost) (keeps : Keeps cost) (adds : Adds cost)
      (onwards : (w : Way) → IsIn x line w.at → AllWays (λ v. IsFrom x line w.at.col v.at) (part w))
      (light : (f : Cost) → IsBelow f f → (w : Way) → IsIn x line w.at → weight (by_left f) (part w) ≤ cost f (left_at w.at))
      (f : Cost) (grows : IsBelow f f) where
    -- a turn, where this follows each of its ways
    turn-light : (g : Cost) → IsBelow g g → (w : Way) → IsIn x line w.at → (next : Way → List Mark) → ((v : Way) → IsFrom x line w.at.col v.at → weight (by_left f) (next v) ≤ g (left_at v.at)) →
        weight (by_left f) (followed (part w) next) ≤ cost g (left_at w.at)
    turn-light g up w h next k =
        omega (arith, weight-followed (λ v. IsFrom x line w.at.col v.at) (by_left f) (by_left g) (part w) next (onwards w h) k, light g up w h)

    stop-endless : (w : Way) (k : ℕ) → left_at w.at ≤ k → f (left_at w.at) ≤ endless cost f k
    stop-endless w k h = omega (arith, grows (left_at w.at) k h, endless-adds cost adds f k)

    free-endless : (fuel : ℕ) (count : Option ℕ) (w : Way) → IsIn x line w.at → (k : ℕ) → left_at w.at ≤ k → weight (by_left f) (free_turns part lazy fuel count w) ≤ endless cost f k
    free-endless zero count w h k few = omega (arith, stop-endless w k few)
    free-endless (suc fuel) count w h zero few =
        either (λ m. weight (by_left f) m ≤ endless cost f 0) (is_spent count) (Reach w ∷ []) _ (λ _. omega (arith, stop-endless w 0 few))
        (λ _.
        let next : Way → List Mark = λ v. elim (is_after v.at w.at) as (λ _. List Mark) [ true ↦ free_turns part lazy fuel (one_less count) v | false ↦ [] ] in
        let more = turn-light nothing (nothing-below nothing) w h next (λ v i. either (λ m. weight (by_left f) m ≤ 0) (is_after v.at w.at) _ []
        (λ e. absurd (omega (arith, fewer-left w.at v.at h (in-line x line w.at.col v.at i) e, few))) (λ _. omega arith)) in
        omega (arith, weight-order (by_left f) lazy (followed (part w) next) (Reach w ∷ []), more, keeps nothing nothing (nothing-below nothing) (left_at w.at) 0 few, grows (left_at w.at) 0 few))
    free-endless (suc fuel) count w h (suc k) few =
        either (λ m. weight (by_left f) m ≤ endless cost f (suc k)) (is_spent count) (Reach w ∷ []) _ (λ _. omega (arith, stop-endless w (suc k) few))
        (λ _.
        let all : ℕ = endless cost f k in
        let next : Way → List Mark = λ v. elim (is_after v.at w.at) as (λ _. List Mark) [ true ↦ free_turns part lazy fuel (one_less count) v | false ↦ [] ] in
        let more = turn-light (λ _. all) (same-below all all (omega arith)) w h next (λ v i. either (λ m. weight (by_left f) m ≤ all) (is_after v.at w.at) _ []
        (λ e. free-endless fuel (one_less count) v (in-line x line w.at.col v.at i) k (omega (arith, fewer-left w.at v.at h (in-line x line w.at.col v.at i) e, few))) (λ _. omega arith)) in
        omega (arith, weight-order (by_left f) lazy (followed (part w) next) (Reach w ∷ []), more, keeps (λ _. all) (λ _. all) (same-below all all (omega arith)) (left_at w.at) (suc k) few, grows (left_at w.at) (suc k) few))

    next-endless : (k j : ℕ) → k ≡ suc j → cost (λ _. endless cost f j) j ≤ endless cost f k
    next-endless zero j e = absurd (omega arith)
    next-endless (suc i) j e =
        let all : ℕ = endless cost f i in
        let same : i ≡ j = omega arith in
        subst (λ n. cost (λ _. endless cost f n) n ≤ endless cost f (suc i)) same (omega (arith, keeps (λ _. all) (λ _. all) (same-below all all (omega arith)) i (suc i) (omega arith)))

    -- of those that have to be taken one may take nothing
    forced-endless : (least : ℕ) (count : Option ℕ) (w : Way) → IsIn x line w.at → (k : ℕ) → left_at w.at ≤ k → weight (by_left f) (turns x.text part lazy least count w) ≤ cost (λ _. endless cost f k) k
    forced-endless zero count w h k few =
        omega (arith, free-endless (suc (places_behind x.text w.at)) count w h k few, adds (λ _. endless cost f k) k)
    forced-endless (suc least) count w h k few =
        let all : ℕ = endless cost f k in
        let flat : IsBelow (λ _. all) (λ _. all) = same-below all all (omega arith) in
        either (λ m. weight (by_left f) m ≤ cost (λ _. all) k) (is_spent count) (Reach w ∷ []) _ (λ _. omega (arith, stop-endless w k few, adds (λ _. all) k))
        (λ _.
        let next : Way → List Mark = λ v. elim (is_after v.at w.at) as (λ _. List Mark) [ true ↦ turns x.text part lazy least (one_less count) v | false ↦ free_turns part lazy (suc (places_behind x.text v.at)) (less_by count (suc least)) v ] in
        let more = turn-light (λ _. all) flat w h next (λ v i. either (λ m. weight (by_left f) m ≤ all) (is_after v.at w.at) _ _
        (λ e.
        let less : left_at v.at < left_at w.at = fewer-left w.at v.at h (in-line x line w.at.col v.at i) e in
        omega (arith, forced-endless least (one_less count) v (in-line x line w.at.col v.at i) (k - 1) (omega (arith, less, few)), next-endless k (k - 1) (omega (arith, less, few))))
        (λ _. free-endless (suc (places_behind x.text v.at)) (less_by count (suc least)) v (in-line x line w.at.col v.at i) k (omega (arith, no-more-left w.at v.at i, few)))) in
        omega (arith, more, keeps (λ _. all) (λ _. all) flat (left_at w.at) k few))

    unlimited-light : (least : ℕ) (count : Option ℕ) (w : Way) → IsIn x line w.at → weight (by_left f) (turns x.text part lazy least count w) ≤ unlimited cost least f (left_at w.at)
    unlimited-light zero count w h = free-endless (suc (places_behind x.text w.at)) count w h (left_at w.at) (omega arith)
    unlimited-light (suc least) count w h = forced-endless (suc least) count w h (left_at w.at) (omega arith)

    -- ---- with a limit

    if-more : (b : Bool) (n : ℕ) → b ≡ true → n ≤ (if b then n else 0)
    if-more true n e = omega arith
    if-more false n e = absurd (cc)

    is_less : (a b : ℕ) → a < b → nat_lt a b ≡ true
    is_less a b h = grind (arith, nat_tests)

    none-left : (most : ℕ) → most ≡ 0 → is_spent (Some most) ≡ false → ⊥
    none-left zero same e = absurd (cc)
    none-left (suc most) same e = absurd (omega arith)

    stop-limited : (free k : ℕ) (w : Way) → weight (by_left f) (Reach w ∷ []) ≤ limited cost free k f (left_at w.at)
    stop-limited free k w = omega (arith, limited-adds cost adds free k f (left_at w.at))

    free-limited : (fuel free k most : ℕ) → most ≡ k → k ≤ free → (w : Way) → IsIn x line w.at → weight (by_left f) (free_turns part lazy fuel (Some most) w) ≤ limited cost free k f (left_at w.at)
    free-limited zero free k most same within w h = stop-limited free k w
    free-limited (suc fuel) free zero most same within w h =
        either (λ m. weight (by_left f) m ≤ f (left_at w.at)) (is_spent (Some most)) (Reach w ∷ []) _ (λ _. omega arith) (λ unspent. absurd (none-left most same unspent))
    free-limited (suc fuel) free (suc k) most same within w h =
        let g : Cost = limited cost free k f in
        either (λ m. weight (by_left f) m ≤ limited cost free (suc k) f (left_at w.at)) (is_spent (Some most)) (Reach w ∷ []) _ (λ _. stop-limited free (suc k) w)
        (λ _.
        let next : Way → List Mark = λ v. elim (is_after v.at w.at) as (λ _. List Mark) [ true ↦ free_turns part lazy fuel (Some (most - 1)) v | false ↦ [] ] in
        let more = turn-light g (limited-below cost keeps free k f f grows) w h next (λ v i. either (λ m. weight (by_left f) m ≤ g (left_at v.at)) (is_after v.at w.at) _ []
        (λ _. free-limited fuel free k (most - 1) (omega arith) (omega arith) v (in-line x line w.at.col v.at i)) (λ _. omega arith)) in
        omega (arith, weight-order (by_left f) lazy (followed (part w) next) (Reach w ∷ []), more, if-more (nat_lt k free) (f (left_at w.at)) (is_less k free (omega arith))))

    -- a turn that took nothing stands for those that are left
    all-left : (free k most : ℕ) → most ≡ free → free ≤ k → (v : Way) → IsIn x line v.at → weight (by_left f) (turns x.text part lazy 0 (Some most) v) ≤ limited cost free k f (left_at v.at)
    all-left free k most same within v h =
        let more : limited cost free free f (left_at v.at) ≤ limited cost free k f (left_at v.at) = limited-more cost adds free free k within f (left_at v.at) in
        omega (arith, free-limited (suc (places_behind x.text v.at)) free free most same (omega arith) v h, more)

    limited-light : (least free k most : ℕ) → most ≡ k → most - least ≡ free → (w : Way) → IsIn x line w.at → weight (by_left f) (turns x.text part lazy least (Some most) w) ≤ limited cost free k f (left_at w.at)
    limited-light zero free k most same apart w h = free-limited (suc (places_behind x.text w.at)) free k most same (omega arith) w h
    limited-light (suc least) free zero most same apart w h =
        either (λ m. weight (by_left f) m ≤ f (left_at w.at)) (is_spent (Some most)) (Reach w ∷ []) _ (λ _. omega arith) (λ unspent. absurd (none-left most same unspent))
    limited-light (suc least) free (suc k) most same apart w h =
        let g : Cost = limited cost free k f in
        either (λ m. weight (by_left f) m ≤ limited cost free (suc k) f (left_at w.at)) (is_spent (Some most)) (Reach w ∷ []) _ (λ _. stop-limited free (suc k) w)
        (λ _.
        let next : Way → List Mark = λ v. elim (is_after v.at w.at) as (λ _. List Mark) [ true ↦ turns x.text part lazy least (Some (most - 1)) v | false ↦ free_turns part lazy (suc (places_behind x.text v.at)) (Some (most - suc least)) v ] in
        let more = turn-light g (limited-below cost keeps free k f f grows) w h next (λ v i. either (λ m. weight (by_left f) m ≤ g (left_at v.at)) (is_after v.at w.at) _ _
        (λ _. limited-light least free k (most - 1) (omega arith) (omega arith) v (in-line x line w.at.col v.at i))
        (λ _. all-left free k (most - suc least) apart (omega arith) v (in-line x line w.at.col v.at i))) in
        omega (arith, more))

    chosen-light : (b : Bool) (least most : ℕ) (w : Way) → IsIn x line w.at → weight (by_left f) (turns x.text part lazy least (Some most) w) ≤ (if b then limited cost (most - least) most f else unlimited cost least f) (left_at w.at)
    chosen-light true least most w h = limited-light least (most - least) most most refl refl w h
    chosen-light false least most w h = unlimited-light least (Some most) w h

    pub counted-light : (least : ℕ) (count : Option ℕ) (w : Way) → IsIn x line w.at → weight (by_left f) (turns x.text part lazy least count w) ≤ counted cost least count f (left_at w.at)
    counted-light least None w h = unlimited-light least None w h
    counted-light least (Some most) w h = chosen-light (is_few (Some most)) least most w h

  -- ---- parts

  atom-light : (a : Atom) → is_lined_atom a ≡ true → (f : Cost) → IsBelow f f → (w : Way) → IsIn x line w.at → weight (by_left f) (visits x (one a) w) ≤ suc (f (left_at w.at))
  atom-light a e f grows w h =
      let marks : List Mark = visits x (one a) w in
      let fits : Lined x line 1 1 marks = lined x line (one a) e w h in
      let few = weight-few (λ v. IsFrom x line w.at.col v.at) (by_left f) (f (left_at w.at)) marks (ways-onwards x line (one a) e w h) (λ v i. grows (left_at v.at) (left_at w.at) (no-more-left w.at v.at i)) in
      let all : ways_of marks * f (left_at w.at) ≤ 1 * f (left_at w.at) = mul-le-mul_right (f (left_at w.at)) fits.few in
      omega (arith, few, fits.cheap, all)

  noting-light : (a : List Mark) (f : Cost) (next : Way → List Mark) → ((v : Way) → weight (by_left f) (next v) ≤ f (left_at v.at)) → weight (by_left f) (followed a next) ≤ weight (by_left f) a
  noting-light [] f next k = omega arith
  noting-light (Tick l ∷ a) f next k = omega (arith, noting-light a f next k)
  noting-light (Reach w ∷ a) f next k = omega (arith, weight-append (by_left f) (next w) (followed a next), k w, noting-light a f next k)

  abbrev IsLight : Shape → Type 0
  IsLight node =
      stays node ≡ true → (f : Cost) → IsBelow f f → (w : Way) → IsIn x line w.at → weight (by_left f) (visits x node w) ≤ cost_of node f (left_at w.at)

  -- a part that stays in its line costs no more than that
  pub cost-light : (node : Shape) → IsLight node
  cost-light empty e f grows w h = omega arith
  cost-light (one a) e f grows w h = atom-light a e f grows w h
  cost-light (seq a b) e f grows w h =
      let t = and_parts (stays a) (stays b) e in
      let g : Cost = cost_of b f in
      omega (
        arith,
        weight-followed (λ v. IsFrom x line w.at.col v.at) (by_left f) (by_left g) (visits x a w) (visits x b) (ways-onwards x line a t.0 w h) (λ v i. cost-light b t.1 f grows v (in-line x line w.at.col v.at i)),
        cost-light a t.0 g (cost-below b f f grows) w h,
      )
  cost-light (or a b) e f grows w h =
      let t = and_parts (stays a) (stays b) e in
      omega (arith, weight-append (by_left f) (visits x a w) (visits x b w), cost-light a t.0 f grows w h, cost-light b t.1 f grows w h)
  cost-light (and a b) e f grows w h =
      let t = and_parts (stays a) (stays b) e in
      let g : Cost = cost_of b f in
      omega (
        arith,
        weight-followed (λ v. IsIn x line v.at) (by_left f) (by_left g) (look false w (visits x a w)) (visits x b) (look-stays (IsIn x line) w (visits x a w) h) (λ v i. cost-light b t.1 f grows v i),
        look-light false w g (visits x a w),
        cost-light a t.0 nothing (nothing-below nothing) w h,
      )
  cost-light (group part number) e f grows w h =
      omega (arith, noting-light (visits x part w) f (noted number w.at) (λ v. omega arith), cost-light part e f grows w h)
  cost-light (external part number) e f grows w h =
      omega (arith, noting-light (visits x part w) f (noted_external number w.at) (λ v. omega arith), cost-light part e f grows w h)
  cost-light (repeat part least most lazy) e f grows w h =
      counted-light (visits x part) lazy (cost_of part) (cost-below part) (cost-adds part) (ways-onwards x line part e) (cost-light part e) f grows least most w h
  cost-light (ahead part negative) e f grows w h =
      omega (arith, look-light negative w f (visits x part w), cost-light part e nothing (nothing-below nothing) w h)
  cost-light (before part negative limit) e f grows w h = absurd (cc)
  cost-light (whole part) e f grows w h =
      let marks : List Mark = visits x part w in
      omega (
        arith,
        weight-ended (by_left f) (by_left nothing) marks (reach_if (first_way marks)),
        weight-first (λ v. IsFrom x line w.at.col v.at) (by_left f) (f (left_at w.at)) marks (ways-onwards x line part e w h) (λ v i. grows (left_at v.at) (left_at w.at) (no-more-left w.at v.at i)),
        cost-light part e nothing (nothing-below nothing) w h,
      )

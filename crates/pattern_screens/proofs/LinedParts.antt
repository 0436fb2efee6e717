-- Parts that stay in their line: how many ways and ticks they have.
use Rattle.pattern_screens.proofs.Common.{◌≡◌, ℕ, zero, suc, ◌<◌, ◌≤◌, Bool, true, false, List, [], ◌∷◌, length, refl, ap, arith, subst, Option, Some, None, pos, not, and_parts, slice_get_within, class_holds, is_same, Looked, Place, one_line, Atom, Char, Any, Is, Set, LineStart, LineStop, WordStart, WordStop, MatchStart, MatchStop, Shape, empty, one, seq, or, and, group, external, repeat, ahead, before, whole, Context, Way, line_at, is_after, behind_character, character_at, only_if, behind_if, behind_one, behind_one_or_end, fits, way_behind, turned_round, collection_holds, Mark, Tick, Reach, free_turns, places_behind, turns, one_less, less_by, is_spent, visits, tried, behind_fit, noted, noted_external, bound_of, is_lined_atom, is_few, is_lined, chain_ways, chain_cost, most_turns}
use Rattle.pattern_screens.proofs.Bounded.{Bounded, CountsDown, Keeps, chain-cost-more, chain-ways-more, either, free, looking, noting, one-or, reached, relaxed, stopping, one-then, whole-way}
use Rattle.pattern_screens.proofs.Stands.{LooksAt}

-- a place in a line
pub record IsIn (x : Context) (line : ℕ) (p : Place) : Type 0 where
  pub on : p.line ≡ line
  pub within : p.col ≤ length (line_at x.text line)

abbrev pub Lined : Context → ℕ → ℕ → ℕ → List Mark → Type 0
Lined x line m c marks = Bounded (IsIn x line) (LooksAt line) m c marks

-- a part that stays in its line
abbrev pub LinedAt : Context → ℕ → ℕ → ℕ → (Way → List Mark) → Type 0
LinedAt x line m c part = Keeps (IsIn x line) (LooksAt line) m c part

-- ---- atoms

abbrev IsInOrNone : Context → ℕ → Option Place → Type 0
IsInOrNone x line None = Unit {0}
IsInOrNone x line (Some p) = IsIn x line p

only-if-in : (x : Context) (line : ℕ) (b : Bool) (p : Place) → IsIn x line p → IsInOrNone x line (only_if b p)
only-if-in x line true p h = h
only-if-in x line false p h = tt

behind-in : (x : Context) (line c : ℕ) (p : Place) → IsIn x line p → character_at x.text p ≡ Some c → IsIn x line (behind_character p)
behind-in x line c p h e =
    let less : p.col < length (line_at x.text p.line) = slice_get_within (line_at x.text p.line) p.col c e in
    let less-here : p.col < length (line_at x.text line) = subst (λ l. p.col < length (line_at x.text l)) h.on less in
    record { on = h.on; within = omega arith }

one-in : (x : Context) (line : ℕ) (test : ℕ → Bool) (p : Place) → IsIn x line p → IsInOrNone x line (behind_one x.text test p)
one-in x line test p h =
    elim (character_at x.text p) as (λ o. character_at x.text p ≡ o → IsInOrNone x line (behind_if test o p)) [
      | None ↦ λ _. tt
      | Some c ↦ λ e. only-if-in x line (test c) (behind_character p) (behind-in x line c p h e)
    ] refl

one-or-end-in : (x : Context) (line : ℕ) (takes_end : Bool) (test : ℕ → Bool) (p : Place) → not takes_end ≡ true → IsIn x line p → IsInOrNone x line (behind_one_or_end x.text takes_end test p)
one-or-end-in x line true test p e h = absurd (cc)
one-or-end-in x line false test p e h = one-in x line test p h

tick-lined : (x : Context) (line : ℕ) (w : Way) (a : Atom) (o : Option Place) (l : Looked) → l ≡ one_line (pos line) → ((p : Place) → IsIn x line p → IsIn x line (way_behind w p a).at) → IsInOrNone x line o → Lined x line 1 1 (Tick l ∷ behind_fit w a o)
tick-lined x line w a None l e f h = record { here = tt; few = omega arith; cheap = omega arith; seen = (e, tt) }
tick-lined x line w a (Some p) l e f h = record { here = (f p h, tt); few = omega arith; cheap = omega arith; seen = (e, tt) }

in-line : (w : Way) (line : ℕ) → w.at.line ≡ line → one_line (pos w.at.line) ≡ one_line (pos line)
in-line w line e = ap (λ l. one_line (pos l)) e

atom-lined : (x : Context) (line : ℕ) (w : Way) (a : Atom) → is_lined_atom a ≡ true → IsIn x line w.at → Lined x line 1 1 (tried x w a)
atom-lined x line w (Char c) e h = tick-lined x line w (Char c) (fits x w (Char c)) _ (in-line w line h.on) (λ p k. k) (one-in x line (λ d. is_same c d x.ignore) w.at h)
atom-lined x line w (Any takes_end) e h = tick-lined x line w (Any takes_end) (fits x w (Any takes_end)) _ (in-line w line h.on) (λ p k. k) (one-or-end-in x line takes_end (λ d. true) w.at e h)
atom-lined x line w (Is class negative takes_end) e h =
    tick-lined x line w (Is class negative takes_end) (fits x w (Is class negative takes_end)) _ (in-line w line h.on) (λ p k. k) (one-or-end-in x line takes_end (λ d. turned_round negative (class_holds class d x.sets)) w.at e h)
atom-lined x line w (Set ranges) e h =
    tick-lined x line w (Set ranges) (fits x w (Set ranges)) _ (in-line w line h.on) (λ p k. k) (one-or-end-in x line ranges.line_end (λ d. collection_holds ranges d x.sets x.ignore) w.at e h)
atom-lined x line w LineStart e h = tick-lined x line w LineStart (fits x w LineStart) _ (in-line w line h.on) (λ p k. k) (only-if-in x line _ w.at h)
atom-lined x line w LineStop e h = tick-lined x line w LineStop (fits x w LineStop) _ (in-line w line h.on) (λ p k. k) (only-if-in x line _ w.at h)
atom-lined x line w WordStart e h = tick-lined x line w WordStart (fits x w WordStart) _ (in-line w line h.on) (λ p k. k) (only-if-in x line _ w.at h)
atom-lined x line w WordStop e h = tick-lined x line w WordStop (fits x w WordStop) _ (in-line w line h.on) (λ p k. k) (only-if-in x line _ w.at h)
atom-lined x line w MatchStart e h = tick-lined x line w MatchStart (fits x w MatchStart) _ (in-line w line h.on) (λ p k. h) h
atom-lined x line w MatchStop e h = tick-lined x line w MatchStop (fits x w MatchStop) _ (in-line w line h.on) (λ p k. h) h
atom-lined x line w _ e h = absurd (cc)

-- ---- counts

-- at most so many turns are left
abbrev pub HasMost : ℕ → Option ℕ → Place → Type 0
HasMost k None p = ⊥
HasMost k (Some most) p = most ≤ k

most-less : (k : ℕ) (most : Option ℕ) (p q : Place) → HasMost (suc k) most p → HasMost k (one_less most) q
most-less k None p q h = absurd h
most-less k (Some most) p q h = omega arith

most-less-by : (k n : ℕ) (most : Option ℕ) (p q : Place) → HasMost k most p → HasMost k (less_by most n) q
most-less-by k n None p q h = absurd h
most-less-by k n (Some most) p q h = omega arith

most-none : (most : Option ℕ) (p : Place) → HasMost 0 most p → is_spent most ≡ false → ⊥
most-none None p h e = absurd h
most-none (Some most) p h e = let z : most ≡ 0 = omega arith in absurd (let k : is_spent (Some most) ≡ true = rw z refl in cc)

most-down : (R : Place → Type 0) → CountsDown R HasMost
most-down R = record {
  stop = λ most p q r s room unspent e. most-none most p room unspent;
  less = λ k most p q r s room e. most-less k most p q room;
}

module _ {x : Context} {line m c : ℕ} (part : Way → List Mark) (lazy : Bool) (stays : LinedAt x line m c part) where
  some-free : (left k : ℕ) (most : Option ℕ) (w : Way) → IsIn x line w.at → HasMost k most w.at → Lined x line (chain_ways m k) (chain_cost m c k) (free_turns part lazy left most w)
  some-free left k most w h room = free part lazy stays HasMost (most-down (IsIn x line)) left k most w h room

  pub turns-lined : (least k : ℕ) (most : Option ℕ) (w : Way) → IsIn x line w.at → HasMost k most w.at → Lined x line (chain_ways m (suc k)) (chain_cost m c (suc k)) (turns x.text part lazy least most w)
  turns-lined zero k most w h room = relaxed (some-free (suc (places_behind x.text w.at)) k most w h room) (chain-ways-more m k) (chain-cost-more m c k)
  turns-lined (suc least) k most w h room =
      either (Lined x line (chain_ways m (suc k)) (chain_cost m c (suc k))) (is_spent most) (Reach w ∷ []) _
      (λ _. stopping part lazy stays HasMost (most-down (IsIn x line)) (suc k) w h)
      (λ unspent. relaxed (one-then _ (stays w h) (λ v i. either (Lined x line (chain_ways m k) (chain_cost m c k)) (is_after v.at w.at) _ _
      (λ e. elim k as (λ j. HasMost j most w.at → Lined x line (chain_ways m j) (chain_cost m c j) (turns x.text part lazy least (one_less most) v)) [
        | zero ↦ λ none. absurd (most-none most w.at none unspent)
        | suc j ↦ λ some. turns-lined least j (one_less most) v i (most-less j most w.at v.at some)
      ] room)
      (λ _. some-free (suc (places_behind x.text v.at)) k (less_by most (suc least)) v i (most-less-by k (suc least) most w.at v.at room))))
      (omega arith) (omega arith))

-- ---- parts

few-room : (most : Option ℕ) (p : Place) → is_few most ≡ true → HasMost (most_turns most) most p
few-room None p e = absurd (cc)
few-room (Some most) p e = omega arith

pub lined : (x : Context) (line : ℕ) (node : Shape) → is_lined node ≡ true → LinedAt x line (bound_of true node).ways (bound_of true node).cost (visits x node)
lined x line empty e v i = reached v i
lined x line (one a) e v i = atom-lined x line v a e i
lined x line (seq a b) e v i =
    let f = and_parts (is_lined a) (is_lined b) e in one-then (visits x b) (lined x line a f.0 v i) (lined x line b f.1)
lined x line (or a b) e v i =
    let f = and_parts (is_lined a) (is_lined b) e in one-or (lined x line a f.0 v i) (lined x line b f.1 v i)
lined x line (and a b) e v i =
    let f = and_parts (is_lined a) (is_lined b) e in one-then (visits x b) (looking false v i (lined x line a f.0 v i)) (lined x line b f.1)
lined x line (group part number) e v i = noting (noted number v.at) (lined x line part e v i) (λ u k. reached _ k)
lined x line (external part number) e v i = noting (noted_external number v.at) (lined x line part e v i) (λ u k. reached _ k)
lined x line (repeat part least most lazy) e v i =
    let f = and_parts (is_few most) (is_lined part) e in
    turns-lined (visits x part) lazy (lined x line part f.1) least (most_turns most) most v i (few-room most v.at f.0)
lined x line (ahead part negative) e v i = looking negative v i (lined x line part e v i)
lined x line (before part negative limit) e v i = absurd (cc)
lined x line (whole part) e v i = whole-way (lined x line part e v i)

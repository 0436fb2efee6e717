-- Parts that stay in a line of at most so many characters: how many ways and ticks they have.
use Rattle.pattern_screens.proofs.Common.{◌≡◌, ℕ, zero, suc, ◌+◌, ◌*◌, ◌<◌, ◌≤◌, Bool, true, false, List, [], ◌∷◌, length, refl, sym, arith, subst, inl, inr, Option, Some, None, IfSome, ◌&&◌, ◌||◌, nat_lt, nat_eq, if◌then◌else◌, and_parts, or_cases, or_parts, nat_tests, IfSome_then, suc-mul, Place, Shape, empty, one, seq, or, and, group, external, repeat, ahead, before, whole, Context, Way, line_at, is_after, Mark, Reach, places_behind, free_turns, turns, visits, noted, noted_external, chain_of, first_bound, or_bound, then_bound, chain_cost, chain_ways, is_few, is_lined_atom, both_rooms, counted_room, first_room, look_then, room_of, turns_room, Bound}
use Rattle.pattern_screens.proofs.Bounded.{CountsDown, either, free, looking, nothing, noting, one-or, ordered, reached, relaxed, one-then, whole-way}
use Rattle.pattern_screens.proofs.LinedParts.{IsIn, Lined, LinedAt, lined, turns-lined}

-- ---- counts

is_less : (a b : ℕ) → nat_lt a b ≡ true → a < b
is_less a b e = grind (arith, nat_tests)

-- behind a place of a line is a greater column
pub column-behind : (line : ℕ) (p q : Place) → p.line ≡ line → q.line ≡ line → is_after p q ≡ true → q.col < p.col
column-behind line p q e f h = elim (or_cases (nat_lt q.line p.line) (nat_eq q.line p.line && nat_lt q.col p.col) h) [
  | inl below ↦ absurd (omega (arith, is_less q.line p.line below, e, f))
  | inr here ↦ is_less q.col p.col (and_parts (nat_eq q.line p.line) (nat_lt q.col p.col) here).1
]

-- each turn takes a character, of those that are left
abbrev pub HasRoom : Context → ℕ → ℕ → Option ℕ → Place → Type 0
HasRoom x line k most p = length (line_at x.text line) ≤ p.col + k

pub room-down : (x : Context) (line : ℕ) → CountsDown (IsIn x line) (HasRoom x line)
room-down x line = record {
  stop = λ most p q r s room unspent e. absurd (omega (arith, column-behind line q p s.on r.on e, s.within, room));
  less = λ k most p q r s room e. omega (arith, column-behind line q p s.on r.on e, room);
}

-- turns of one way each
pub single-ways : (k : ℕ) → chain_ways 1 k ≡ suc k
single-ways zero = refl
single-ways (suc k) = omega (arith, single-ways k)

pub single-cost : (k c : ℕ) → chain_cost 1 c k ≡ suc k * c
single-cost zero c = omega arith
single-cost (suc k) c = omega (arith, single-cost k c, suc-mul (suc k) c)

module _ {x : Context} {line c : ℕ} (part : Way → List Mark) (lazy : Bool) (stays : LinedAt x line 1 c part) (most : ℕ) (few : length (line_at x.text line) ≤ most) where
  free-few : (left : ℕ) (w : Way) → IsIn x line w.at → Lined x line (suc most) (suc most * c) (free_turns part lazy left None w)
  free-few left w h =
      relaxed (free part lazy stays (HasRoom x line) (room-down x line) left most None w h (omega (arith, few)))
      (omega (arith, single-ways most)) (omega (arith, single-cost most c))

  many-lined : (least : ℕ) → nat_lt 1 least ≡ false → (w : Way) → IsIn x line w.at → Lined x line (most + 1) ((most + 2) * c) (turns x.text part lazy least None w)
  many-lined zero e w h = relaxed (free-few (suc (places_behind x.text w.at)) w h) (omega arith) (omega arith)
  many-lined (suc zero) e w h =
      relaxed (one-then _ (stays w h) (λ v i. either (Lined x line (suc most) (suc most * c)) (is_after v.at w.at) _ _
      (λ _. free-few (suc (places_behind x.text v.at)) v i)
      (λ _. free-few (suc (places_behind x.text v.at)) v i))) (omega arith) (omega arith)
  many-lined (suc (suc n)) e w h = absurd (let k : nat_lt 1 (suc (suc n)) ≡ true = grind (arith, nat_tests) in cc)

-- a part that may be left out
stopped : (part : Way → List Mark) (lazy : Bool) (left : ℕ) (v : Way) → free_turns part lazy left (Some 0) v ≡ Reach v ∷ []
stopped part lazy zero v = refl
stopped part lazy (suc left) v = refl

pub once-lined : {x : Context} {line m c : ℕ} (part : Way → List Mark) (lazy : Bool) → LinedAt x line m c part → LinedAt x line (m + 1) c (turns x.text part lazy 0 (Some 1))
once-lined {x} {line} part lazy stays w h =
    ordered lazy w h (relaxed (one-then _ (stays w h) (λ v i. either (Lined x line 1 0) (is_after v.at w.at) _ []
    (λ _. subst (Lined x line 1 0) (sym (stopped part lazy (places_behind x.text w.at) v)) (reached v i)) (λ _. nothing))) (omega arith) (omega arith))

-- ---- parts

is_same : (a b : ℕ) → nat_eq a b ≡ true → a ≡ b
is_same a b e = grind (arith, nat_tests)

isnt_less : (a b : ℕ) → nat_lt a b ≡ false → b ≤ a
isnt_less a b e = grind (arith, nat_tests)

both-are : {P Q : Bound → Type 0} (S : Bound → Type 0) (join : Bound → Bound → Bound) (o r : Option Bound) → IfSome o P → IfSome r Q → ((a b : Bound) → P a → Q b → S (join a b)) → IfSome (both_rooms join o r) S
both-are S join None r h k f = tt
both-are S join (Some a) None h k f = tt
both-are S join (Some a) (Some b) h k f = f a b h k

first-are : {P : Bound → Type 0} (S : Bound → Type 0) (o : Option Bound) → IfSome o P → ((a : Bound) → P a → S (first_bound a)) → IfSome (first_room o) S
first-are S None h f = tt
first-are S (Some a) h f = f a h

module _ (x : Context) (line most : ℕ) (few : length (line_at x.text line) ≤ most) where
  abbrev RoomAt : (Way → List Mark) → Bound → Type 0
  RoomAt part room = LinedAt x line room.ways room.cost part

  counted : (least : ℕ) (count : Option ℕ) (lazy : Bool) (a : Bound) (part : Way → List Mark) → RoomAt part a → IfSome (turns_room most least count a) (RoomAt (turns x.text part lazy least count))
  counted least None lazy a part stays =
      elim (nat_lt 1 least || nat_lt 1 a.ways) as (λ b. (nat_lt 1 least || nat_lt 1 a.ways) ≡ b → IfSome (if b then None else Some (record { ways = most + 1; cost = (most + 2) * a.cost })) (RoomAt (turns x.text part lazy least None))) [
        | true ↦ λ _. tt
        | false ↦ λ e.
            let f = or_parts (nat_lt 1 least) (nat_lt 1 a.ways) e in
            many-lined part lazy (λ v i. relaxed (stays v i) (isnt_less 1 a.ways f.1) (omega arith)) most few least f.0
      ] refl
  counted least (Some count) lazy a part stays =
      elim (nat_eq least 0 && nat_eq count 1) as (λ b. (nat_eq least 0 && nat_eq count 1) ≡ b → IfSome (if b then Some (record { ways = a.ways + 1; cost = a.cost }) else (if is_few (Some count) then Some (chain_of a (suc count)) else None)) (RoomAt (turns x.text part lazy least (Some count)))) [
        | true ↦ λ e.
            let f = and_parts (nat_eq least 0) (nat_eq count 1) e in
            subst (λ n. LinedAt x line (a.ways + 1) a.cost (turns x.text part lazy n (Some count))) (sym (is_same least 0 f.0))
            (subst (λ n. LinedAt x line (a.ways + 1) a.cost (turns x.text part lazy 0 (Some n))) (sym (is_same count 1 f.1)) (once-lined part lazy stays))
        | false ↦ λ _. elim (is_few (Some count)) as (λ b. IfSome (if b then Some (chain_of a (suc count)) else None) (RoomAt (turns x.text part lazy least (Some count)))) [
          | true ↦ λ w h. turns-lined part lazy stays least count (Some count) w h (omega arith)
          | false ↦ tt
        ]
      ] refl

  -- a part has no more ways and ticks than its room
  pub room-lined : (node : Shape) → IfSome (room_of most node) (RoomAt (visits x node))
  room-lined empty = λ v i. reached v i
  room-lined (one a) = elim (is_lined_atom a) as (λ b. is_lined_atom a ≡ b → IfSome (if b then Some (record { ways = 1; cost = 1 }) else None) (RoomAt (visits x (one a)))) [
    | true ↦ λ e. lined x line (one a) e
    | false ↦ λ _. tt
  ] refl
  room-lined (seq a b) = both-are (RoomAt (visits x (seq a b))) then_bound (room_of most a) (room_of most b) (room-lined a) (room-lined b) (λ s t h k v i. one-then (visits x b) (h v i) k)
  room-lined (or a b) = both-are (RoomAt (visits x (or a b))) or_bound (room_of most a) (room_of most b) (room-lined a) (room-lined b) (λ s t h k v i. one-or (h v i) (k v i))
  room-lined (and a b) = both-are (RoomAt (visits x (and a b))) look_then (room_of most a) (room_of most b) (room-lined a) (room-lined b) (λ s t h k v i. one-then (visits x b) (looking false v i (h v i)) k)
  room-lined (group part number) = IfSome_then (room_of most part) (room-lined part) (λ s h v i. noting (noted number v.at) (h v i) (λ u k. reached _ k))
  room-lined (external part number) = IfSome_then (room_of most part) (room-lined part) (λ s h v i. noting (noted_external number v.at) (h v i) (λ u k. reached _ k))
  room-lined (repeat part least count lazy) =
      elim (room_of most part) as (λ o. IfSome o (RoomAt (visits x part)) → IfSome (counted_room most least count o) (RoomAt (visits x (repeat part least count lazy)))) [
        | None ↦ λ h. tt
        | Some a ↦ λ h. counted least count lazy a (visits x part) h
      ] (room-lined part)
  room-lined (ahead part negative) = first-are (RoomAt (visits x (ahead part negative))) (room_of most part) (room-lined part) (λ s h v i. looking negative v i (h v i))
  room-lined (before part negative limit) = tt
  room-lined (whole part) = first-are (RoomAt (visits x (whole part))) (room_of most part) (room-lined part) (λ s h v i. whole-way (h v i))

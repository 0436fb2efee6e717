-- The test of two states passes exactly for equal ones.
use Rattle.std.proofs.Common.{◌≡◌, ℕ, List, [], ◌∷◌, refl, sym, ap, ◌∙◌, Bool, true, Some, None}
use Rattle.std.specs.Prelude.{Option, ◌==◌, ◌&&◌, nat_eq}
use Rattle.std.specs.Bool.{beq}
use Rattle.std.specs.Cmp.{booleans_Decides}
use Rattle.std.specs.Cmp.Lexicographic.{pointwise}
use Rattle.std.specs.Option.{option_eq}
use Rattle.std.proofs.lemmas.Bool.{and_parts}
use Rattle.std.proofs.lemmas.Bool.Decides.{Decides-eqb}
use Rattle.syn_base.specs.declared.places.GroupId.{GroupId}
use Rattle.syn_base.specs.declared.places.ItemId.{ItemId}
use Rattle.paint_rules.specs.Frames.{Frame}
use Rattle.paint_rules.specs.States.{State}
use Rattle.paint_rules.specs.declared.Part.{Part}
use Rattle.paint_rules.specs.declared.Part.TheVariants.{Body, StartArea, EndArea, Keyword}
use Rattle.paint_rules.specs.declared.Spot.{Spot}
use Rattle.paint_rules.specs.declared.Spot.TheVariants.{Past, At}
use Rattle.paint_rules.specs.declared.Waiting.{Waiting}
use Rattle.paint_reuse.specs.SameState.{EqualStatesAreTheSame, same_area, same_frame, same_group, same_item, same_part, same_places, same_spot, same_state, same_wait}

-- a test that passes for equal values, and for no others
record IsExact {A : Type 0} (E : A → A → Bool) : Type 0 where
  equal : (a b : A) → E a b ≡ true → a ≡ b
  same : (a : A) → E a a ≡ true

pub both_true : (x y : Bool) → x ≡ true → y ≡ true → (x && y) ≡ true
both_true x y e f = ap (λ (z : Bool). z && y) e ∙ f

exact_nat : IsExact nat_eq
exact_nat = record { equal = λ a b h. (Decides-eqb a b).0 h; same = λ a. (Decides-eqb a a).1 refl }

exact_bool : IsExact beq
exact_bool = record { equal = λ a b h. (booleans_Decides a b).0 h; same = λ a. (booleans_Decides a a).1 refl }

module _ {A : Type 0} (E : A → A → Bool) (e : IsExact E) where
  options_equal : (a b : Option A) → option_eq E a b ≡ true → a ≡ b
  options_equal None None h = refl
  options_equal None (Some b) h = absurd cc
  options_equal (Some a) None h = absurd cc
  options_equal (Some a) (Some b) h = ap (λ (x : A). Some x) (e.equal a b h)

  options_same : (a : Option A) → option_eq E a a ≡ true
  options_same None = refl
  options_same (Some a) = e.same a

  exact_option : IsExact (option_eq E)
  exact_option = record { equal = options_equal; same = options_same }

  lists_equal : (xs ys : List A) → pointwise E xs ys ≡ true → xs ≡ ys
  lists_equal [] [] h = refl
  lists_equal [] (y ∷ ys) h = absurd cc
  lists_equal (x ∷ xs) [] h = absurd cc
  lists_equal (x ∷ xs) (y ∷ ys) h =
      let both = and_parts (E x y) (pointwise E xs ys) h in
      ap (λ (z : A). z ∷ xs) (e.equal x y both.0) ∙ ap (λ (zs : List A). y ∷ zs) (lists_equal xs ys both.1)

  lists_same : (xs : List A) → pointwise E xs xs ≡ true
  lists_same [] = refl
  lists_same (x ∷ xs) = both_true (E x x) (pointwise E xs xs) (e.same x) (lists_same xs)

  exact_list : IsExact (pointwise E)
  exact_list = record { equal = lists_equal; same = lists_same }

spots_equal : (a b : Spot) → same_spot a b ≡ true → a ≡ b
spots_equal Past Past h = refl
spots_equal Past (At l d) h = absurd cc
spots_equal (At k c) Past h = absurd cc
spots_equal (At k c) (At l d) h =
    let both = and_parts (k == l) (c == d) h in
    ap (λ (n : ℕ). At n c) (exact_nat.equal k l both.0) ∙ ap (λ (n : ℕ). At l n) (exact_nat.equal c d both.1)

spots_same : (a : Spot) → same_spot a a ≡ true
spots_same Past = refl
spots_same (At k c) = both_true (k == k) (c == c) (exact_nat.same k) (exact_nat.same c)

exact_spot : IsExact same_spot
exact_spot = record { equal = spots_equal; same = spots_same }

parts_equal : (a b : Part) → same_part a b ≡ true → a ≡ b
parts_equal Body Body h = refl
parts_equal StartArea StartArea h = refl
parts_equal EndArea EndArea h = refl
parts_equal Keyword Keyword h = refl
parts_equal _ _ h = absurd cc

parts_same : (a : Part) → same_part a a ≡ true
parts_same Body = refl
parts_same StartArea = refl
parts_same EndArea = refl
parts_same Keyword = refl

groups_equal : (a b : GroupId) → same_group a b ≡ true → a ≡ b
groups_equal a b h = ap (λ (n : ℕ). group n) (exact_nat.equal a.0 b.0 h)
  where
    group : ℕ → GroupId
    group n = record { 0 = n }

exact_group : IsExact same_group
exact_group = record { equal = groups_equal; same = λ g. exact_nat.same g.0 }

ids_equal : (a b : ItemId) → (a.0 == b.0) ≡ true → a ≡ b
ids_equal a b h = ap (λ (n : ℕ). item n) (exact_nat.equal a.0 b.0 h)
  where
    item : ℕ → ItemId
    item n = record { 0 = n }

exact_end : IsExact (option_eq same_spot)
exact_end = exact_option same_spot exact_spot

exact_texts : IsExact (pointwise (pointwise nat_eq))
exact_texts = exact_list (pointwise nat_eq) (exact_list nat_eq exact_nat)

frames_equal : (f g : Frame) → same_frame f g ≡ true → f ≡ g
frames_equal f g h =
    let p = and_parts (same_item f g) (same_places f g && (same_area f g && pointwise (pointwise nat_eq) f.externals g.externals)) h in
    let q = and_parts (same_places f g) (same_area f g && pointwise (pointwise nat_eq) f.externals g.externals) p.1 in
    let r = and_parts (same_area f g) (pointwise (pointwise nat_eq) f.externals g.externals) q.1 in
    let i = and_parts ((f.item).0 == (g.item).0) (same_part f.part g.part && same_group f.shows g.shows) p.0 in
    let j = and_parts (same_part f.part g.part) (same_group f.shows g.shows) i.1 in
    let k = and_parts (option_eq same_spot f.known_end g.known_end) (same_spot f.high_from g.high_from && (option_eq same_spot f.high_to g.high_to && same_spot f.search g.search)) q.0 in
    let l = and_parts (same_spot f.high_from g.high_from) (option_eq same_spot f.high_to g.high_to && same_spot f.search g.search) k.1 in
    let m = and_parts (option_eq same_spot f.high_to g.high_to) (same_spot f.search g.search) l.1 in
    let a = and_parts (option_eq same_spot f.area_end g.area_end) (option_eq same_spot f.area_high g.area_high && option_eq same_group f.area_shows g.area_shows) r.0 in
    let b = and_parts (option_eq same_spot f.area_high g.area_high) (option_eq same_group f.area_shows g.area_shows) a.1 in
    let e_item = ids_equal f.item g.item i.0 in
    let e_part = parts_equal f.part g.part j.0 in
    let e_shows = groups_equal f.shows g.shows j.1 in
    let e_known = exact_end.equal f.known_end g.known_end k.0 in
    let e_from = spots_equal f.high_from g.high_from l.0 in
    let e_to = exact_end.equal f.high_to g.high_to m.0 in
    let e_search = spots_equal f.search g.search m.1 in
    let e_area = exact_end.equal f.area_end g.area_end a.0 in
    let e_high = exact_end.equal f.area_high g.area_high b.0 in
    let e_group = (exact_option same_group exact_group).equal f.area_shows g.area_shows b.1 in
    let e_texts = exact_texts.equal f.externals g.externals r.1 in
    λ n. record {
      item = e_item n;
      part = e_part n;
      shows = e_shows n;
      known_end = e_known n;
      high_from = e_from n;
      high_to = e_to n;
      area_end = e_area n;
      area_high = e_high n;
      area_shows = e_group n;
      search = e_search n;
      externals = e_texts n;
    }

frames_same : (f : Frame) → same_frame f f ≡ true
frames_same f =
    both_true (same_item f f) (same_places f f && (same_area f f && pointwise (pointwise nat_eq) f.externals f.externals))
    (both_true ((f.item).0 == (f.item).0) (same_part f.part f.part && same_group f.shows f.shows) (exact_nat.same (f.item).0) (both_true (same_part f.part f.part) (same_group f.shows f.shows) (parts_same f.part) (exact_group.same f.shows)))
    (both_true (same_places f f) (same_area f f && pointwise (pointwise nat_eq) f.externals f.externals)
    (both_true (option_eq same_spot f.known_end f.known_end) _ (exact_end.same f.known_end) (both_true (same_spot f.high_from f.high_from) _ (spots_same f.high_from) (both_true (option_eq same_spot f.high_to f.high_to) (same_spot f.search f.search) (exact_end.same f.high_to) (spots_same f.search))))
    (both_true (same_area f f) (pointwise (pointwise nat_eq) f.externals f.externals)
    (both_true (option_eq same_spot f.area_end f.area_end) _ (exact_end.same f.area_end) (both_true (option_eq same_spot f.area_high f.area_high) (option_eq same_group f.area_shows f.area_shows) (exact_end.same f.area_high) ((exact_option same_group exact_group).same f.area_shows)))
    (exact_texts.same f.externals)))

exact_frame : IsExact same_frame
exact_frame = record { equal = frames_equal; same = frames_same }

waits_equal : (w v : Waiting) → same_wait w v ≡ true → w ≡ v
waits_equal w v h =
    let both = and_parts ((w.item).0 == (v.item).0) (beq w.fresh v.fresh) h in
    let e_item = ids_equal w.item v.item both.0 in
    let e_fresh = exact_bool.equal w.fresh v.fresh both.1 in
    λ n. record { item = e_item n; fresh = e_fresh n }

exact_wait : IsExact same_wait
exact_wait = record {
  equal = waits_equal;
  same = λ w. both_true ((w.item).0 == (w.item).0) (beq w.fresh w.fresh) (exact_nat.same (w.item).0) (exact_bool.same w.fresh);
}

pub same_state_is : (s t : State) → same_state s t ≡ true → s ≡ t
unfolding same_state
same_state_is s t h =
    let both = and_parts (pointwise same_frame s.stack t.stack) (option_eq same_wait s.waiting t.waiting) h in
    let e_stack = (exact_list same_frame exact_frame).equal s.stack t.stack both.0 in
    let e_waiting = (exact_option same_wait exact_wait).equal s.waiting t.waiting both.1 in
    λ n. record { stack = e_stack n; waiting = e_waiting n }

pub state_is_same : (s : State) → same_state s s ≡ true
unfolding same_state
state_is_same s =
    both_true (pointwise same_frame s.stack s.stack) (option_eq same_wait s.waiting s.waiting) ((exact_list same_frame exact_frame).same s.stack) ((exact_option same_wait exact_wait).same s.waiting)

pub equal_states : EqualStatesAreTheSame
equal_states s t = (same_state_is s t, λ e. ap (same_state s) (sym e) ∙ state_is_same s)

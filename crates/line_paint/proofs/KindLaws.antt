-- What is true of the kinds of frames is true of the frames.
use Rattle.line_paint.proofs.Common.{◌≡◌, Bool, true, false, List, [], ◌∷◌, reverse, refl, ap, sym, ◌∙◌, ℕ, ◌&&◌, ◌||◌, not, nat_eq, Option, Some, None, GroupId, Frame, Painted, done, ◌>>=◌, Here, Rules, Cause, item_of, has_extend, has_keepend, at_line_start, below_at_line_start, searched_anew, anew_over_keepend, untouched, shown, anew_if, below_if, is_clear, holds}
use Rattle.std.specs.List.{list_all, list_any}
use Rattle.std.proofs.lemmas.Bool.{and_from, and_parts, eqb-true, not-true, or_from}
use Rattle.std.proofs.lemmas.List.{reverse-append}
use Rattle.std.proofs.lemmas.List.Folds.{list_all-append}
use Rattle.syntax_set.specs.declared.added_item.AddedItem.{AddedItem}
use Rattle.paint_rules.specs.declared.Part.{Part}
use Rattle.paint_rules.specs.declared.Part.TheVariants.{Body, StartArea, EndArea, Keyword}
use Rattle.paint_rules.specs.declared.Spot.{Spot}
use Rattle.state_stack.specs.declared.kinds.Kind.{Kind}
use Rattle.state_stack.specs.Kinds.{has, have_kinds, is_area, is_of, kind_of, same_kind, same_truth}
use Rattle.line_paint.specs.Kinds.{is_so, none_keeps, all_clear}

either : (P : Type 0) (a b : Bool) → a || b ≡ true → (a ≡ true → P) → (b ≡ true → P) → P
either P true b e one other = one refl
either P false b e one other = other e

equal_truth : (a b : Bool) → same_truth a b ≡ true → a ≡ b
equal_truth true true e = refl
equal_truth true false e = absurd (cc)
equal_truth false true e = absurd (cc)
equal_truth false false e = refl

equal_kind : (a b : Kind) → same_kind a b ≡ true → a ≡ b
equal_kind a b e =
    let both = and_parts (nat_eq (a.item).0 (b.item).0) (same_truth a.in_area b.in_area) e in
    λ i. record {
      item = record { 0 = eqb-true (a.item).0 (b.item).0 both.0 i };
      in_area = equal_truth a.in_area b.in_area both.1 i;
    }

module _ (holds_of : Kind → Bool) where
  of_one : (kinds : List Kind) (k : Kind) → list_all holds_of kinds ≡ true → has kinds k ≡ true →
      holds_of k ≡ true
  of_one [] k e h = absurd (cc)
  of_one (j ∷ kinds) k e h =
      let both = and_parts (holds_of j) (list_all holds_of kinds) e in
      either (holds_of k ≡ true) (same_kind j k) (has kinds k) h
      (λ same. sym (ap holds_of (equal_kind j k same)) ∙ both.0)
      (λ later. of_one kinds k both.1 later)

  of_each : (kinds : List Kind) (fs : List Frame) → list_all holds_of kinds ≡ true →
      have_kinds kinds fs ≡ true → list_all (λ f. holds_of (kind_of f)) fs ≡ true
  of_each kinds [] e h = refl
  of_each kinds (f ∷ fs) e h =
      let both = and_parts (is_of kinds f) (have_kinds kinds fs) h in
      and_from (holds_of (kind_of f)) (list_all (λ f. holds_of (kind_of f)) fs)
      (of_one kinds (kind_of f) e both.0) (of_each kinds fs e both.1)

-- in either order
all_reversed : (p : Frame → Bool) (fs : List Frame) → list_all p fs ≡ true →
    list_all p (reverse fs) ≡ true
all_reversed p [] e = refl
all_reversed p (f ∷ fs) e =
    let both = and_parts (p f) (list_all p fs) e in
    ap (list_all p) (reverse-append (f ∷ []) fs)
    ∙ (list_all-append p (reverse fs) (f ∷ [])
    ∙ and_from (list_all p (reverse fs)) _ (all_reversed p fs both.1)
    (and_from (p f) true both.0 refl))

pub none_keeps_by : (items : List AddedItem) (kinds : List Kind) (fs : List Frame) →
    list_all (is_so items false) kinds ≡ true → have_kinds kinds fs ≡ true →
    none_keeps items (reverse fs) ≡ true
none_keeps_by items kinds fs e h =
    all_reversed (λ f. not (has_keepend items f)) fs (of_each (is_so items false) kinds fs e h)

clear_part : (r : Rules) (f : Frame) (part : Part) →
    not (is_area part) && (item_of r.items f.item).transparent ≡ true → is_clear r f part ≡ true
clear_part r f Body e = e
clear_part r f StartArea e = absurd (cc)
clear_part r f EndArea e = absurd (cc)
clear_part r f Keyword e = e

each_clear : (r : Rules) (fs : List Frame) →
    list_all (λ f. is_so r.items true (kind_of f)) fs ≡ true → all_clear r fs ≡ true
each_clear r [] e = refl
each_clear r (f ∷ fs) e =
    let both = and_parts (is_so r.items true (kind_of f))
    (list_all (λ f. is_so r.items true (kind_of f)) fs) e in
    and_from (is_clear r f f.part) (all_clear r fs) (clear_part r f f.part both.0)
    (each_clear r fs both.1)

pub all_clear_by : (r : Rules) (kinds : List Kind) (fs : List Frame) →
    list_all (is_so r.items true) kinds ≡ true → have_kinds kinds fs ≡ true →
    all_clear r (reverse fs) ≡ true
all_clear_by r kinds fs e h =
    all_reversed (λ f. is_clear r f f.part) fs
    (each_clear r fs (of_each (is_so r.items true) kinds fs e h))

either_stays : {A : Type 0} (b : Bool) (x m : A) → m ≡ x →
    elim b as (λ _. A) [ true ↦ x | false ↦ m ] ≡ x
either_stays true x m e = refl
either_stays false x m e = e

-- where no frame has an item with `keepend`, none searches below the top at the start of a line
stays_below : (h : Here) (fs : List Frame) → none_keeps h.rules.items fs ≡ true →
    below_at_line_start h fs ≡ done fs
stays_below h [] e = refl
stays_below h (f ∷ fs) e =
    let both = and_parts (not (has_keepend h.rules.items f)) (none_keeps h.rules.items fs) e in
    λ i. either_stays (has_extend h.rules.items f) (done fs) (below_at_line_start h fs)
    (stays_below h fs both.1) i
    >>= (λ rest. elim (not-true (has_keepend h.rules.items f) both.0 i) as (λ _. Painted Cause Frame) [
      | true ↦ at_line_start h f
      | false ↦ done f
    ] >>= (λ g. done (g ∷ rest)))

-- nor does one once a frame above them is popped
stays_anew : (h : Here) (c : ℕ) (fs : List Frame) → none_keeps h.rules.items fs ≡ true →
    anew_over_keepend h c fs ≡ done (untouched fs)
stays_anew h c [] e = refl
stays_anew h c (f ∷ fs) e =
    let both = and_parts (not (has_keepend h.rules.items f)) (none_keeps h.rules.items fs) e in
    λ i. either_stays (has_extend h.rules.items f) (done (untouched fs)) (anew_over_keepend h c fs)
    (stays_anew h c fs both.1) i
    >>= (λ rest.
    let over = rest.over || not-true (has_keepend h.rules.items f) both.0 i in
    elim over as (λ _. Painted Cause Frame) [
      | true ↦ searched_anew h c f
      | false ↦ done f
    ] >>= (λ g. done (record { frames = g ∷ rest.frames; over = over })))

pub unkept_below : (h : Here) (fs : List Frame) (b : Bool) → none_keeps h.rules.items fs ≡ true →
    below_if h b fs ≡ done fs
unkept_below h fs true e = stays_below h fs e
unkept_below h fs false e = refl

pub unkept_anew : (h : Here) (c : ℕ) (fs : List Frame) (b : Bool) →
    none_keeps h.rules.items fs ≡ true → anew_if h c b fs ≡ done (untouched fs)
unkept_anew h c fs true e = stays_anew h c fs e
unkept_anew h c fs false e = refl

pub unkept_none : (items : List AddedItem) (fs : List Frame) → none_keeps items fs ≡ true →
    list_any (has_keepend items) fs ≡ false
unkept_none items [] e = refl
unkept_none items (f ∷ fs) e =
    let both = and_parts (not (has_keepend items f)) (none_keeps items fs) e in
    or_from (has_keepend items f) (list_any (has_keepend items) fs)
    (not-true (has_keepend items f) both.0) (unkept_none items fs both.1)

passed_over : (clear held : Bool) (group : GroupId) (rest : Option GroupId) → clear ≡ true →
    rest ≡ None →
    ◌≡◌ {A = Option GroupId}
    (elim (not clear && held) as (λ _. Option GroupId) [ true ↦ Some group | false ↦ rest ]) None
passed_over true held group rest e n = n
passed_over false held group rest e n = absurd (cc)

-- clear frames show nothing
pub clear_shows_none : (r : Rules) (place : Spot) (fs : List Frame) → all_clear r fs ≡ true →
    shown r place fs ≡ None
clear_shows_none r place [] e = refl
clear_shows_none r place (f ∷ fs) e =
    let both = and_parts (is_clear r f f.part) (all_clear r fs) e in
    passed_over (is_clear r f f.part) (holds place f) f.shows (shown r place fs) both.0
    (clear_shows_none r place fs both.1)

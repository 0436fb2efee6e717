-- Frames whose known ends are those of items without `keepend` put no limit to a frame above them.
use Rattle.region_ends.proofs.Common.{◌≡◌, inl, inr, Bool, true, false, List, [], ◌∷◌, reverse, refl, ap, subst, ◌∙◌, ◌&&◌, ◌||◌, not, nat_eq, Option, Some, None, AllPass-from_list_all, ItemId, AddedItem, Frame, item_of, is_none, eqb-true, not-true, list_all-from_AllPass, earlier_end, has_extend, has_keepend, is_start_area, limit_on, keep_none}
use Rattle.paint_rules.specs.declared.Spot.{Spot}
use Rattle.state_stack.specs.declared.enders.Enders.{Enders}
use Rattle.state_stack.specs.declared.enders.Enders.TheVariants.{Nothing, One, Two, Three, Many}
use Rattle.state_stack.specs.Enders.{ends_by, have_enders, is_among}
use Rattle.std.proofs.lemmas.Bool.{and_parts, or_cases}
use Rattle.region_ends.proofs.CommonLaws.{all_reverse}

none_or_end : (b : Bool) (end : Option Spot) → end ≡ None → ◌≡◌ {A = Option Spot} (elim b [ true ↦ None | false ↦ end ]) None
none_or_end true end e = refl
none_or_end false end e = e

-- in either order
have_enders_reversed : (enders : Enders) (fs : List Frame) → have_enders enders fs ≡ true → have_enders enders (reverse fs) ≡ true
have_enders_reversed enders fs e =
    list_all-from_AllPass (ends_by enders) (reverse fs) (all_reverse (λ f. ends_by enders f ≡ true) fs (AllPass-from_list_all (ends_by enders) fs e))

-- a frame that has no end, or doesn't keep it
no_limit : (keeps other : Bool) (end : Option Spot) (among : Bool) → is_none end || among ≡ true → (among ≡ true → keeps ≡ false) → ◌≡◌ {A = Option Spot} (elim (keeps && other) [ true ↦ end | false ↦ None ]) None
no_limit false other end among e unkept = refl
no_limit true false end among e unkept = refl
no_limit true true None among e unkept = refl
no_limit true true (Some s) among e unkept = absurd (let kept = unkept e in cc)

same_item : (a i : ItemId) → nat_eq a.0 i.0 ≡ true → a ≡ i
same_item a i h = λ k. record { 0 = eqb-true a.0 i.0 h k }

module _ (items : List AddedItem) (i : ItemId) where
  abbrev Unkept : Type 0
  Unkept = (item_of items i).keepend ≡ false

  by_one : (a : ItemId) → not (item_of items a).keepend ≡ true → nat_eq a.0 i.0 ≡ true → Unkept
  by_one a e h = subst (λ j. (item_of items j).keepend ≡ false) (same_item a i h) (not-true (item_of items a).keepend e)

  by_more : (a : ItemId) (rest among : Bool) → (rest ≡ true → among ≡ true → Unkept) → not (item_of items a).keepend && rest ≡ true → nat_eq a.0 i.0 || among ≡ true → Unkept
  by_more a rest among others e h =
      let each = and_parts (not (item_of items a).keepend) rest e in
      elim (or_cases (nat_eq a.0 i.0) among h) [ inl here ↦ by_one a each.0 here | inr there ↦ others each.1 there ]

  -- none of the items among which one is has `keepend`
  unkept_among : (enders : Enders) → keep_none items enders ≡ true → is_among enders i ≡ true → Unkept
  unkept_among Nothing e h = absurd (cc)
  unkept_among (One a) e h = by_one a e h
  unkept_among (Two a b) e h = by_more a _ _ (by_one b) e h
  unkept_among (Three a b c) e h = by_more a _ _ (by_more b _ _ (by_one c)) e h
  unkept_among Many e h = absurd (cc)

module _ (items : List AddedItem) (enders : Enders) (unkept : (i : ItemId) → is_among enders i ≡ true → (item_of items i).keepend ≡ false) where
  -- the top first
  none_limits : (fs : List Frame) → have_enders enders fs ≡ true → limit_on items fs ≡ None
  none_limits [] e = refl
  none_limits (f ∷ fs) e =
      let a = and_parts (ends_by enders f) (have_enders enders fs) e in
      ap (λ limit. earlier_end limit (elim (has_extend items f) [ true ↦ None | false ↦ limit_on items fs ]))
      (no_limit (has_keepend items f) (not (is_start_area f.part)) f.known_end (is_among enders f.item) a.0 (unkept f.item))
      ∙ none_or_end (has_extend items f) (limit_on items fs) (none_limits fs a.1)

-- the bottom one first
pub unkept_limits : (items : List AddedItem) (enders : Enders) (fs : List Frame) → keep_none items enders ≡ true → have_enders enders fs ≡ true → limit_on items (reverse fs) ≡ None
unkept_limits items enders fs e h = none_limits items enders (λ i. unkept_among items i enders e) (reverse fs) (have_enders_reversed enders fs h)

-- Frames that search: what the code calls is what the rules say.
use Rattle.line_paint.proofs.Common.{◌≡◌, ◌<◌, ℕ, Bool, true, false, List, [], ◌∷◌, refl, sym, ap, ◌∙◌, subst, ◌||◌, ◌&&◌, not, Option, None, Some, Result, Ok, Looked, Frame, Painted, Done, looked_first, done, ◌>>=◌, Here, Cause, item_of, has_extend, has_keepend, anew_over_keepend, at_line_start, below_at_line_start, searched_anew, untouched, Fits, bind_assoc, goes_on, ItemId, Stop, anew_or, anew_if, below_if, top_searched, frames_or, items_of, is_none, AnewComes, from_if, line_start_of, search_column, searched_from, searched_on, FramesCome}
use Rattle.syntax_set.specs.declared.item.Item.{Item}
use Rattle.paint_rules.specs.Close.{Anew, body_after_area, col_here, exposed_anew, frames_after, is_open, is_region_body, search_col, searched_if, with_end}
use Rattle.paint_rules.specs.declared.RegionEnd.{RegionEnd}
use Rattle.state_stack.specs.SameFrames.{SameEnds}
use Rattle.line_paint.specs.declared.closing.Anew.{Anew as AnewCode}
use Rattle.line_paint.specs.declared.ends.Occasion.{Occasion}
use Rattle.line_paint.specs.declared.ends.Occasion.TheVariants.{LineStart, UnderArea, OverKeepend, Exposed}
use Rattle.std.proofs.lemmas.Bool.{or_parts}
use Rattle.line_paint.proofs.ComesLaws.{comes_of_then}

-- a frame that has the ends which its search found stays as it is
pub same_ends_stay : (h : Here) (f : Frame) (found : Option RegionEnd) →
    SameEnds f (with_end h f found) → f ≡ with_end h f found
same_ends_stay h f (Some e) same = λ i. record f {
  known_end = same.0 i;
  high_to = same.1 i;
  area_end = same.2 i;
  area_high = same.3 i;
  area_shows = same.4 i;
}
same_ends_stay h f None same = λ i. record f {
  known_end = same.0 i;
  high_to = same.1 i;
  area_end = same.2 i;
  area_high = same.3 i;
  area_shows = same.4 i;
}

turned : {A : Type 0} (b : Bool) (x y : A) →
    elim b as (λ _. A) [ true ↦ x | false ↦ y ] ≡ elim (not b) as (λ _. A) [ true ↦ y | false ↦ x ]
turned true x y = refl
turned false x y = refl

unchanged : (b : Bool) (f : Frame) →
    done f ≡ elim b as (λ _. Painted Cause Frame) [ true ↦ done f | false ↦ done f ]
unchanged true f = refl
unchanged false f = refl

module _ (h : Here) (f : Frame) where
  by_region : (from : Option ℕ) →
      searched_from h f from
      ≡ elim (is_region_body h.rules f) as (λ _. Painted Cause Frame) [ true ↦ searched_if h f from | false ↦ done f ]
  by_region None = unchanged (is_region_body h.rules f) f
  by_region (Some c) = refl

  -- a search that may be left out
  from_either : (b : Bool) (c : ℕ) →
      searched_from h f (from_if b (search_col c f.search))
      ≡ elim b as (λ _. Painted Cause Frame) [ true ↦ searched_anew h c f | false ↦ done f ]
  from_either true c = by_region (search_col c f.search)
  from_either false c = refl

  start_either : (b : Bool) →
      searched_from h f (from_if (b && is_open f.known_end) (search_col 0 f.search))
      ≡ elim b as (λ _. Painted Cause Frame) [ true ↦ at_line_start h f | false ↦ done f ]
  start_either true = from_either (is_open f.known_end) 0
  start_either false = refl

  area_either : (b wanted : Bool) (from : Option ℕ) →
      elim b as (λ _. Painted Cause Frame) [ true ↦ searched_if h f (from_if wanted from) | false ↦ done f ]
      ≡ elim (b && wanted) as (λ _. Painted Cause Frame) [ true ↦ searched_if h f from | false ↦ done f ]
  area_either true true from = refl
  area_either true false from = refl
  area_either false wanted from = refl

  -- what the code calls on each occasion
  pub searched_is : (on : Occasion) → searched_from h f (search_column h on f) ≡ searched_on h on f
  searched_is (LineStart is_top) = start_either (is_top || has_keepend h.rules.items f)
  searched_is UnderArea =
      by_region (from_if (is_none f.known_end) (col_here f.search))
      ∙ area_either (is_region_body h.rules f) (is_none f.known_end) (col_here f.search)
  searched_is (OverKeepend c) = by_region (search_col c f.search)
  searched_is (Exposed c) =
      from_either (not (has_keepend h.rules.items f)) c
      ∙ sym (turned (has_keepend h.rules.items f) (done f) (searched_anew h c f))

pub under_area : (h : Here) (fs : List Frame) →
    top_searched h UnderArea fs None ≡ body_after_area h fs
under_area h [] = refl
under_area h (f ∷ below) = refl

-- the frames under one that was popped, where the top has searched and where it has not
pub exposed_stays : (h : Here) (c : ℕ) (fs : List Frame) → exposed_anew h c true fs ≡ done fs
exposed_stays h c [] = refl
exposed_stays h c (f ∷ below) = refl

pub exposed_searches : (h : Here) (c : ℕ) (fs : List Frame) →
    top_searched h (Exposed c) fs None ≡ exposed_anew h c false fs
exposed_searches h c [] = refl
exposed_searches h c (f ∷ below) = refl

module _ (h : Here) (c : ℕ) (popped : Frame) (below : List Frame) (item : Item) (wanted : Bool) (j k : Looked)
    (anew : AnewCode) (same : item ≡ item_of h.rules.items popped.item)
    (may : anew_if h c wanted below ≡ anew_if h c item.extend below)
    (before : AnewComes below (Ok anew) j k (anew_if h c wanted below)) where
  after : (r : Result (Option (List Frame)) Stop) (l : Looked) →
      FramesCome below r k l (exposed_anew h c anew.over (frames_or below anew.frames)) →
      FramesCome below r j l (frames_after h c popped below)
  after r l a =
      let follow = λ (a : Anew). exposed_anew h c a.over a.frames in
      subst (λ (m : Painted Cause Anew). FramesCome below r j l (m >>= follow))
      (may ∙ ap (λ (x : Item). anew_if h c x.extend below) same)
      (comes_of_then (frames_or below) items_of (items_of below) r j k l
      (anew_if h c wanted below) (anew_or below anew) follow before.0 a)

  pub after_over : anew.over ≡ true → FramesCome below (Ok anew.frames) j k (frames_after h c popped below)
  after_over is =
      let fs = frames_or below anew.frames in
      after (Ok anew.frames) k (
        ap (λ (o : Bool). looked_first (Some k) (exposed_anew h c o fs)) is
            ∙ ap (looked_first (Some k)) (exposed_stays h c fs),
        before.1,
      )

  pub after_exposed : (r : Result (Option (List Frame)) Stop) (l : Looked) → anew.over ≡ false → anew.frames ≡ None →
      FramesCome below r k l (top_searched h (Exposed c) below None) → FramesCome below r j l (frames_after h c popped below)
  after_exposed r l is none a =
      let P : Painted Cause (List Frame) → Type 0 = λ p. FramesCome below r k l p in
      after r l (subst (λ (o : Bool). P (exposed_anew h c o (frames_or below anew.frames))) (sym is)
      (subst (λ (frames : Option (List Frame)). P (exposed_anew h c false (frames_or below frames))) (sym none)
      (subst P (exposed_searches h c below) a)))

-- where no frames are to search over a `keepend`, all stay
pub none_wanted : (h : Here) (c : ℕ) (below : List Frame) (wanted : Bool) (j : Looked) → wanted ≡ false →
    AnewComes below (Ok (record { frames = None; over = false })) j j (anew_if h c wanted below)
none_wanted h c below wanted j e =
    subst (λ (b : Bool). AnewComes below (Ok (record { frames = None; over = false })) j j (anew_if h c b below))
    (sym e) (refl, refl)

-- the rules of frames under a top of this item, as the code goes on from those below it
module _ (h : Here) (top : Frame) (below : List Frame) (item : Item)
    (same : item ≡ item_of h.rules.items top.item) where
  abbrev over_rest : Bool → List Frame → Painted Cause (List Frame)
  over_rest is_top rest = searched_on h (LineStart is_top) top >>= (λ g. done (g ∷ rest))

  below_by : below_if h (not item.extend) below
      ≡ elim (has_extend h.rules.items top) as (λ _. Painted Cause (List Frame)) [ true ↦ done below | false ↦ below_at_line_start h below ]
  below_by =
      ap (λ (x : Item). below_if h (not x.extend) below) same
      ∙ sym (turned (has_extend h.rules.items top) (done below) (below_at_line_start h below))

  start_is : (is_top : Bool) → below_if h (not item.extend) below >>= over_rest is_top
      ≡ line_start_of h is_top (top ∷ below)
  start_is true = ap (λ (m : Painted Cause (List Frame)). m >>= over_rest true) below_by
  start_is false = ap (λ (m : Painted Cause (List Frame)). m >>= over_rest false) below_by

  pub start_then : (is_top wanted : Bool) (fs : List Frame) (rest : Option (List Frame))
      (r : Result (Option (List Frame)) Stop) (j k l : Looked) → fs ≡ top ∷ below →
      below_if h wanted below ≡ below_if h (not item.extend) below →
      looked_first (Some j) (below_if h wanted below) ≡ Done (frames_or below rest) (Some k) →
      FramesCome fs r k l (top_searched h (LineStart is_top) fs rest) →
      FramesCome fs r j l (line_start_of h is_top fs)
  start_then is_top wanted fs rest r j k l split may before =
      let P : List Frame → Type 0 = λ fs. FramesCome fs r k l
      (top_searched h (LineStart is_top) fs rest)
      → FramesCome fs r j l (line_start_of h is_top fs) in
      let Q : Painted Cause (List Frame) → Type 0 = λ p. FramesCome (top ∷ below) r j l p in
      subst P (sym split) (λ a. subst Q
      (ap (λ (m : Painted Cause (List Frame)). m >>= over_rest is_top) may ∙ start_is is_top)
      (comes_of_then (frames_or (top ∷ below)) items_of (items_of (top ∷ below)) r j k l
      (below_if h wanted below) (frames_or below rest) (over_rest is_top) before a))

  abbrev searched_if_over : ℕ → Bool → Painted Cause Frame
  searched_if_over c over = elim over as (λ _. Painted Cause Frame) [ true ↦ searched_anew h c top | false ↦ done top ]

  abbrev over_anew : ℕ → Anew → Painted Cause Anew
  over_anew c rest =
      let over = rest.over || has_keepend h.rules.items top in
      searched_if_over c over >>= (λ g. done (record { frames = g ∷ rest.frames; over = over }))

  anew_is : (c : ℕ) → anew_over_keepend h c (top ∷ below)
      ≡ anew_if h c (not item.extend) below >>= over_anew c
  anew_is c =
      ap (λ (m : Painted Cause Anew). m >>= over_anew c)
      (turned (has_extend h.rules.items top) (done (untouched below)) (anew_over_keepend h c below))
      ∙ ap (λ (x : Item). anew_if h c (not x.extend) below >>= over_anew c) (sym same)

  module _ (c : ℕ) (fs : List Frame) (rest : AnewCode) (wanted over : Bool) (j k : Looked) (split : fs ≡ top ∷ below)
      (is_wanted : wanted ≡ true) (is_over : over ≡ (rest.over || has_keepend h.rules.items top))
      (before : looked_first (Some j) (anew_if h c (not item.extend) below) ≡ Done (anew_or below rest) (Some k)) where
    abbrev came : Bool → Painted Cause Anew
    came o = searched_if_over c o >>= (λ g. done (record { frames = g ∷ frames_or below rest.frames; over = o }))

    comes_to : (o : Bool) → over ≡ o →
        looked_first (Some j) (anew_over_keepend h c (top ∷ below)) ≡ looked_first (Some k) (came o)
    comes_to o is =
        ap (looked_first (Some j)) (anew_is c)
        ∙ (goes_on j k (anew_if h c (not item.extend) below) (anew_or below rest) (over_anew c) before
        ∙ ap (λ (o : Bool). looked_first (Some k) (came o)) (sym is_over ∙ is))

    lifted : (r : Result AnewCode Stop) (l : Looked) →
        AnewComes (top ∷ below) r j l (anew_over_keepend h c (top ∷ below)) → AnewComes fs r j l (anew_if h c wanted fs)
    lifted r l a =
        subst (λ (b : Bool). AnewComes fs r j l (anew_if h c b fs)) (sym is_wanted)
        (subst (λ (fs : List Frame). AnewComes fs r j l (anew_over_keepend h c fs)) (sym split) a)

    pub anew_stays : over ≡ false → (rest.over ≡ false → rest.frames ≡ None) →
        AnewComes fs (Ok (record { frames = None; over = false })) j k (anew_if h c wanted fs)
    anew_stays is none =
        lifted (Ok (record { frames = None; over = false })) k (
          comes_to false is
              ∙ ap (λ (fs : Option (List Frame)). Done (record { frames = top ∷ frames_or below fs; over = false }) (Some k))
              (none (or_parts rest.over (has_keepend h.rules.items top) (sym is_over ∙ is)).0),
          refl,
        )

    pub anew_over : (l : Looked) (frames : Option (List Frame)) → over ≡ true →
        FramesCome fs (Ok frames) k l (top_searched h (OverKeepend c) fs rest.frames) →
        AnewComes fs (Ok (record { frames = frames; over = over })) j l (anew_if h c wanted fs)
    anew_over l frames is comes =
        let onto : Frame → Painted Cause (List Frame) = λ g. done (g ∷ frames_or below rest.frames) in
        let whole : List Frame → Painted Cause Anew = λ frames. done (record { frames = frames; over = true }) in
        let made = frames_or (top ∷ below) frames in
        let P : List Frame → Type 0 = λ fs. FramesCome fs (Ok frames) k l (top_searched h (OverKeepend c) fs rest.frames) in
        let a : P (top ∷ below) = subst P split comes in
        lifted (Ok (record { frames = frames; over = over })) l (
          comes_to true is
              ∙ (ap (looked_first (Some k)) (sym (bind_assoc (searched_anew h c top) onto whole))
              ∙ (goes_on k l (searched_anew h c top >>= onto) made whole a.0
              ∙ ap (λ (o : Bool). Done (record { frames = made; over = o }) (Some l)) (sym is))),
          a.1,
        )

-- frames of the same items fit as before
pub fits_same : (n : ℕ) (fs gs : List Frame) → items_of gs ≡ items_of fs → Fits n fs → Fits n gs
fits_same n fs [] e h = tt
fits_same n [] (g ∷ gs) e h = absurd (cc)
fits_same n (f ∷ fs) (g ∷ gs) e h =
    let here : f.item ≡ g.item = cc in
    let rest : items_of gs ≡ items_of fs = cc in
    (subst (λ (i : ItemId). i.0 < n) here h.0, fits_same n fs gs rest h.1)

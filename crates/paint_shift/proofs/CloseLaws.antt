-- Closing and the start of a line are alike in two texts.
use Rattle.std.proofs.Common.{◌≡◌, ◌+◌, ◌-◌, ℕ, zero, suc, arith, Bool, true, false, List, [], ◌∷◌}
use Rattle.std.proofs.Common.{length, refl, ap, ◌∙◌}
use Rattle.std.specs.Prelude.{Option, Some, None, nat_lt, ◌&&◌, ◌||◌, is_none}
use Rattle.std.specs.Option.{option_map}
use Rattle.syn_base.specs.declared.places.Place.{Place}
use Rattle.paint_rules.specs.Frames.{Frame}
use Rattle.paint_rules.specs.declared.Spot.{Spot}
use Rattle.paint_rules.specs.declared.Spot.TheVariants.{Past, At}
use Rattle.paint_rules.specs.Rules.{Here, item_of, place_at}
use Rattle.paint_rules.specs.declared.RegionEnd.{RegionEnd}
use Rattle.paint_rules.specs.KeptEnd.{has_extend, has_keepend}
use Rattle.paint_rules.specs.States.{spot_of, Standing}
use Rattle.paint_rules.specs.Close.{is_region_body, with_end, searched, search_col, searched_if}
use Rattle.paint_rules.specs.Close.{searched_anew, is_open, at_line_start, below_at_line_start}
use Rattle.paint_rules.specs.Close.{line_start, Closing, Stays, BecomesArea, Leaves, LeavesArea}
use Rattle.paint_rules.specs.Close.{waiting_after, col_here, body_after_area, untouched}
use Rattle.paint_rules.specs.Close.{anew_over_keepend, exposed_anew, frames_after}
use Rattle.paint_rules.specs.Close.{container_goes_on, close_top, close_once, closed_in, closed}
use Rattle.paint_shift.proofs.Shift.{Two, IsMoved, OnBoth, IsPresent, IsMovedEnd, AttemptsAreLocal}
use Rattle.paint_shift.proofs.AlikeLaws.{bind_alike, bind_same, by_test, by_equal, Same, done_same}
use Rattle.paint_shift.proofs.AlikeLaws.{done_equal}
use Rattle.paint_shift.proofs.PlaceLaws.{place_moved, line_lt_moved}
use Rattle.paint_shift.proofs.EndLaws.{end_in_line_alike}

module _ (two : Two) (local : AttemptsAreLocal two) (k j : ℕ) (h : IsPresent two k j) where
  abbrev pub one : Here
  one = record { rules = two.rules; text = two.one; line = k }

  abbrev pub other : Here
  other = record { rules = two.rules; text = two.other; line = j }

  spot_by : (p q : Place) → IsMoved two p q → (v w : Bool) → w ≡ v → nat_lt p.line k ≡ v →
      elim w as (λ _. Spot) [ true ↦ Past | false ↦ At (q.line - j) q.col ]
      ≡ elim v as (λ _. Spot) [ true ↦ Past | false ↦ At (p.line - k) p.col ]
  spot_by p q m true true e f = refl
  spot_by p q m false false e f =
      let n : j + two.back ≡ k + two.ahead = h.same.moved in
      let g : q.line - j ≡ p.line - k = omega (arith, m.line, n) in
      ap (λ l. At l q.col) g ∙ ap (λ c. At (p.line - k) c) m.col
  spot_by p q m true false e f = absurd (cc)
  spot_by p q m false true e f = absurd (cc)

  -- a place is counted alike from both lines
  pub spot_same : (p q : Place) → IsMoved two p q → spot_of other q ≡ spot_of one p
  spot_same p q m =
      spot_by p q m (nat_lt p.line k) (nat_lt q.line j)
      (line_lt_moved two p.line q.line k j m.line h.same.moved) refl

  spots_same : (o r : Option Place) → OnBoth (IsMoved two) o r →
      option_map (spot_of other) r ≡ option_map (spot_of one) o
  spots_same None None m = refl
  spots_same (Some p) (Some q) m = ap (λ (s : Spot). Some s) (spot_same p q m)
  spots_same None (Some q) m = absurd m
  spots_same (Some p) None m = absurd m

  pub with_end_same : (f : Frame) (o r : Option RegionEnd) → OnBoth (IsMovedEnd two) o r →
      with_end other f r ≡ with_end one f o
  with_end_same f None None m = ap (λ (line : List ℕ). record f {
    known_end = elim (item_of two.rules.items f.item).oneline as (λ _. Option Spot)
        [ true ↦ Some (At 0 (length line)) | false ↦ None ];
    high_to = None;
    area_end = None;
    area_high = None;
    area_shows = None;
  }) h.same.chars
  with_end_same f (Some e) (Some d) m = λ t. record f {
    known_end = Some (spot_same e.end d.end m.end t);
    high_to = Some (spot_same e.high_to d.high_to m.high_to t);
    area_end = spots_same e.area_end d.area_end m.area_end t;
    area_high = spots_same e.area_high d.area_high m.area_high t;
    area_shows = m.area_shows t;
  }
  with_end_same f None (Some d) m = absurd m
  with_end_same f (Some e) None m = absurd m

  searched_same : (f : Frame) (c : ℕ) → Same two (searched one f c) (searched other f c)
  searched_same f c =
      bind_alike two
      (end_in_line_alike two local f.item f.externals (place_at k c) (place_at j c)
      (place_moved two k j c h.same.moved))
      (λ o r both. done_equal two _ _ (with_end_same f o r both))

  searched_if_same : (f : Frame) (o : Option ℕ) →
      Same two (searched_if one f o) (searched_if other f o)
  searched_if_same f None = done_same two f
  searched_if_same f (Some c) = searched_same f c

  searched_anew_same : (c : ℕ) (f : Frame) →
      Same two (searched_anew one c f) (searched_anew other c f)
  searched_anew_same c f =
      by_test two (is_region_body two.rules f) (is_region_body two.rules f) refl
      (λ _. searched_if_same f (search_col c f.search)) (λ _. done_same two f)

  at_line_start_same : (f : Frame) → Same two (at_line_start one f) (at_line_start other f)
  at_line_start_same f =
      by_test two (is_open f.known_end) (is_open f.known_end) refl (λ _. searched_anew_same 0 f)
      (λ _. done_same two f)

  below_same : (fs : List Frame) →
      Same two (below_at_line_start one fs) (below_at_line_start other fs)
  below_same [] = done_same two []
  below_same (f ∷ below) =
      bind_same two
      (by_test two (has_extend two.rules.items f) (has_extend two.rules.items f) refl
      (λ _. done_same two below) (λ _. below_same below))
      (λ rest. bind_same two
      (by_test two (has_keepend two.rules.items f) (has_keepend two.rules.items f) refl
      (λ _. at_line_start_same f) (λ _. done_same two f))
      (λ g. done_same two (g ∷ rest)))

  pub line_start_same : (fs : List Frame) → Same two (line_start one fs) (line_start other fs)
  line_start_same [] = done_same two []
  line_start_same (f ∷ below) =
      bind_same two
      (by_test two (has_extend two.rules.items f) (has_extend two.rules.items f) refl
      (λ _. done_same two below) (λ _. below_same below))
      (λ rest. bind_same two (at_line_start_same f) (λ g. done_same two (g ∷ rest)))

  body_after_area_same : (fs : List Frame) →
      Same two (body_after_area one fs) (body_after_area other fs)
  body_after_area_same [] = done_same two []
  body_after_area_same (f ∷ below) =
      let t = is_region_body two.rules f && is_none f.known_end in
      bind_same two
      (by_test two t t refl (λ _. searched_if_same f (col_here f.search))
      (λ _. done_same two f)) (λ g. done_same two (g ∷ below))

  anew_same : (c : ℕ) (fs : List Frame) →
      Same two (anew_over_keepend one c fs) (anew_over_keepend other c fs)
  anew_same c [] = done_same two (untouched [])
  anew_same c (f ∷ below) =
      bind_same two
      (by_test two (has_extend two.rules.items f) (has_extend two.rules.items f) refl
      (λ _. done_same two (untouched below)) (λ _. anew_same c below))
      (λ rest.
      let over = rest.over || has_keepend two.rules.items f in
      bind_same two
      (by_test two over over refl (λ _. searched_anew_same c f) (λ _. done_same two f))
      (λ g. done_same two (record { frames = g ∷ rest.frames; over = over })))

  exposed_same : (c : ℕ) (v : Bool) (fs : List Frame) →
      Same two (exposed_anew one c v fs) (exposed_anew other c v fs)
  exposed_same c v [] = done_same two []
  exposed_same c v (f ∷ below) =
      let t = v || has_keepend two.rules.items f in
      bind_same two (by_test two t t refl (λ _. done_same two f) (λ _. searched_anew_same c f))
      (λ g. done_same two (g ∷ below))

  frames_after_same : (c : ℕ) (popped : Frame) (below : List Frame) →
      Same two (frames_after one c popped below) (frames_after other c popped below)
  frames_after_same c popped below =
      bind_same two
      (by_test two (has_extend two.rules.items popped) (has_extend two.rules.items popped) refl
      (λ _. anew_same c below) (λ _. done_same two (untouched below)))
      (λ anew. exposed_same c anew.over anew.frames)

  close_top_same : (c : ℕ) (s : Standing) (top : Frame) (below : List Frame) (how : Closing) →
      Same two (close_top one c s top below how) (close_top other c s top below how)
  close_top_same c s top below Stays = done_same two None
  close_top_same c s top below BecomesArea = done_same two _
  close_top_same c s top below LeavesArea =
      bind_same two (body_after_area_same below)
      (λ frames. done_same two (Some (record s { stack = frames; waiting = None; floor = c })))
  close_top_same c s top below Leaves =
      bind_same two (frames_after_same c top below)
      (λ frames. done_equal two _ _
      (ap (λ (line : List ℕ). Some
      (record s {
        stack = frames;
        waiting = waiting_after two.rules line c top.item;
        floor = c;
        is_over = container_goes_on two.rules line c top below;
      })) h.same.chars))

  close_once_same : (c : ℕ) (s : Standing) (fs : List Frame) →
      Same two (close_once one c s fs) (close_once other c s fs)
  close_once_same c s [] = done_same two None
  close_once_same c s (top ∷ below) = close_top_same c s top below _

  closed_in_same : (steps : ℕ) (c : ℕ) (s : Standing) →
      Same two (closed_in steps one c s) (closed_in steps other c s)
  closed_in_same zero c s = done_same two s
  closed_in_same (suc steps) c s =
      bind_same two (close_once_same c s s.stack)
      (λ next. by_equal two next next refl (done_same two s)
      (λ more. closed_in_same steps c more))

  pub closed_same : (c : ℕ) (s : Standing) → Same two (closed one c s) (closed other c s)
  closed_same c s = closed_in_same (length s.stack + length s.stack) c s

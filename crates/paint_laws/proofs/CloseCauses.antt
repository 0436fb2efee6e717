-- Closing, and the start of a line, are refused for the search of an open region's end; what stays
-- open is what was open.
use Rattle.std.proofs.Common.{◌≡◌, inl, inr, ◌<◌, ◌+◌, ℕ, zero, suc, arith, Bool}
use Rattle.std.proofs.Common.{List, [], ◌∷◌, length, refl}
use Rattle.std.specs.Prelude.{Option, Some, None, ◌&&◌, ◌||◌, is_none, max}
use Rattle.std.specs.List.{AllByRecursion}
use Rattle.syn_base.specs.declared.places.Place.{Place}
use Rattle.syntax_set.specs.declared.item.Pattern.{Pattern}
use Rattle.paint_rules.specs.Frames.{Frame}
use Rattle.paint_rules.specs.declared.RegionEnd.{RegionEnd}
use Rattle.paint_rules.specs.declared.Spot.{Spot}
use Rattle.paint_rules.specs.declared.Spot.TheVariants.{Past, At}
use Rattle.paint_rules.specs.Painted.{Painted, done}
use Rattle.paint_rules.specs.Rules.{Here, Cause, TooCostly, place_at}
use Rattle.paint_rules.specs.States.{Standing}
use Rattle.paint_rules.specs.KeptEnd.{has_extend, has_keepend}
use Rattle.paint_rules.specs.Close.{is_region_body, with_end, searched, search_col, searched_if}
use Rattle.paint_rules.specs.Close.{searched_anew, is_open, at_line_start, below_at_line_start}
use Rattle.paint_rules.specs.Close.{line_start, Closing, Stays, BecomesArea, Leaves, LeavesArea}
use Rattle.paint_rules.specs.Close.{end_area_of, col_here, body_after_area, Anew, untouched}
use Rattle.paint_rules.specs.Close.{anew_over_keepend, exposed_anew, frames_after, close_top}
use Rattle.paint_rules.specs.Close.{close_once, closed_in, closed}
use Rattle.paint_laws.specs.Accepted.{cost_of, LooksForEnd, IsSearchedFrom}
use Rattle.paint_laws.proofs.CauseLaws.{ComesTo, Any, then_comes, done_comes, test_comes}
use Rattle.paint_laws.proofs.EndCauses.{search_comes}

-- a fact of frames that a new end, and an end area, leave as it is; and a cause that the search for
-- an open region's end has, from a column on
module _ (h : Here) (c : ℕ) (P : Cause → Type 0) (Q : Frame → Type 0)
    (ended : (f : Frame) (o : Option RegionEnd) → Q f → Q (with_end h f o))
    (in_area : (f : Frame) → Q f → Q (end_area_of (At 0 c) f))
    (costly : (f : Frame) (pattern : Pattern) (place : Place) → Q f →
    LooksForEnd h c f pattern place →
    h.rules.budget < cost_of h.rules h.text f.item pattern f.externals place →
    P (TooCostly f.item)) where
  abbrev pub AreSo : List Frame → Type 0
  AreSo fs = AllByRecursion Q fs

  searched_comes : (f : Frame) → Q f → (d : ℕ) → IsSearchedFrom c f d →
      ComesTo P Q (searched h f d)
  searched_comes f q d from =
      then_comes P Any Q
      (search_comes h.rules h.text P f.item f.externals (place_at h.line d)
      (λ pattern place of at over. costly f pattern place q
      (record { first = d; from = from; of_end = of; at = at }) over))
      (λ o _ _. done_comes P Q (with_end h f o) (ended f o q))

  if_comes : (f : Frame) → Q f → (o : Option ℕ) →
      ((d : ℕ) → o ≡ Some d → IsSearchedFrom c f d) → ComesTo P Q (searched_if h f o)
  if_comes f q None from = done_comes P Q f q
  if_comes f q (Some d) from = searched_comes f q d (from d refl)

  behind : (f : Frame) (s : Spot) (d : ℕ) → search_col c s ≡ Some d → IsSearchedFrom c f d
  behind f Past d e = let same : c ≡ d = cc in inl (omega (arith, same))
  behind f (At zero col) d e = let same : max c col ≡ d = cc in inl (omega (arith, same))
  behind f (At (suc k) col) d e = absurd (cc)

  own : (f : Frame) (s : Spot) (d : ℕ) → f.search ≡ s → col_here s ≡ Some d → IsSearchedFrom c f d
  own f Past d e at = absurd (cc)
  own f (At zero col) d e at = let same : col ≡ d = cc in inr (cc)
  own f (At (suc k) col) d e at = absurd (cc)

  anew_comes : (f : Frame) → Q f → ComesTo P Q (searched_anew h c f)
  anew_comes f q =
      test_comes P (is_region_body h.rules f)
      (if_comes f q (search_col c f.search) (behind f f.search)) (done_comes P Q f q)

  body_comes : (fs : List Frame) → AreSo fs → ComesTo P AreSo (body_after_area h fs)
  body_comes [] all = done_comes P AreSo [] tt
  body_comes (f ∷ below) all =
      then_comes P Q AreSo
      (test_comes P (is_region_body h.rules f && is_none f.known_end)
      (if_comes f all.0 (col_here f.search) (λ d. own f f.search d refl))
      (done_comes P Q f all.0))
      (λ g _ q. done_comes P AreSo (g ∷ below) (q, all.1))

  abbrev AnewSo : Anew → Type 0
  AnewSo anew = AreSo anew.frames

  over_comes : (fs : List Frame) → AreSo fs → ComesTo P AnewSo (anew_over_keepend h c fs)
  over_comes [] all = done_comes P AnewSo (untouched []) tt
  over_comes (f ∷ below) all =
      then_comes P AnewSo AnewSo
      (test_comes P (has_extend h.rules.items f) (done_comes P AnewSo (untouched below) all.1)
      (over_comes below all.1))
      (λ rest _ more. then_comes P Q AnewSo
      (test_comes P (rest.over || has_keepend h.rules.items f) (anew_comes f all.0)
      (done_comes P Q f all.0))
      (λ g _ q. done_comes P AnewSo
      (record { frames = g ∷ rest.frames; over = rest.over || has_keepend h.rules.items f })
      (q, more)))

  exposed_comes : (v : Bool) (fs : List Frame) → AreSo fs →
      ComesTo P AreSo (exposed_anew h c v fs)
  exposed_comes v [] all = done_comes P AreSo [] tt
  exposed_comes v (f ∷ below) all =
      then_comes P Q AreSo
      (test_comes P (v || has_keepend h.rules.items f) (done_comes P Q f all.0)
      (anew_comes f all.0))
      (λ g _ q. done_comes P AreSo (g ∷ below) (q, all.1))

  after_comes : (popped : Frame) (below : List Frame) → AreSo below →
      ComesTo P AreSo (frames_after h c popped below)
  after_comes popped below all =
      then_comes P AnewSo AreSo
      (test_comes P (has_extend h.rules.items popped) (over_comes below all)
      (done_comes P AnewSo (untouched below) all))
      (λ anew _ more. exposed_comes anew.over anew.frames more)

  abbrev pub StandsSo : Standing → Type 0
  StandsSo s = AreSo s.stack

  abbrev NextSo : Option Standing → Type 0
  NextSo None = Unit {0}
  NextSo (Some s) = StandsSo s

  top_comes : (s : Standing) (top : Frame) (below : List Frame) (how : Closing) → Q top →
      AreSo below → ComesTo P NextSo (close_top h c s top below how)
  top_comes s top below Stays q all = done_comes P NextSo None tt
  top_comes s top below BecomesArea q all = record { holds = (in_area top q, all) }
  top_comes s top below LeavesArea q all =
      then_comes P AreSo NextSo (body_comes below all) (λ frames _ more. record { holds = more })
  top_comes s top below Leaves q all =
      then_comes P AreSo NextSo (after_comes top below all)
      (λ frames _ more. record { holds = more })

  once_comes : (s : Standing) (fs : List Frame) → AreSo fs → ComesTo P NextSo (close_once h c s fs)
  once_comes s [] all = done_comes P NextSo None tt
  once_comes s (top ∷ below) all = top_comes s top below _ all.0 all.1

  closed_in_comes : (n : ℕ) (s : Standing) → StandsSo s → ComesTo P StandsSo (closed_in n h c s)
  closed_in_comes zero s all = done_comes P StandsSo s all
  closed_in_comes (suc n) s all =
      then_comes P NextSo StandsSo (once_comes s s.stack all)
      (λ next _ so. by_next (closed_in_comes n) next so)
    where
      by_next : ((more : Standing) → StandsSo more → ComesTo P StandsSo (closed_in n h c more)) →
          (next : Option Standing) → NextSo next → ComesTo P StandsSo
          (elim next as (λ _. Painted Cause Standing)
          [ None ↦ done s | Some more ↦ closed_in n h c more ])
      by_next go None so = done_comes P StandsSo s all
      by_next go (Some more) so = go more so

  pub closed_comes : (s : Standing) → StandsSo s → ComesTo P StandsSo (closed h c s)
  closed_comes s all = closed_in_comes (length s.stack + length s.stack) s all

-- where a line begins
module _ (h : Here) (P : Cause → Type 0) (Q : Frame → Type 0)
    (ended : (f : Frame) (o : Option RegionEnd) → Q f → Q (with_end h f o))
    (in_area : (f : Frame) → Q f → Q (end_area_of (At 0 0) f))
    (costly : (f : Frame) (pattern : Pattern) (place : Place) → Q f →
    LooksForEnd h 0 f pattern place →
    h.rules.budget < cost_of h.rules h.text f.item pattern f.externals place →
    P (TooCostly f.item)) where
  at_start_comes : (f : Frame) → Q f → ComesTo P Q (at_line_start h f)
  at_start_comes f q =
      test_comes P (is_open f.known_end) (anew_comes h 0 P Q ended in_area costly f q)
      (done_comes P Q f q)

  below_comes : (fs : List Frame) → AllByRecursion Q fs →
      ComesTo P (AllByRecursion Q) (below_at_line_start h fs)
  below_comes [] all = done_comes P (AllByRecursion Q) [] tt
  below_comes (f ∷ below) all =
      then_comes P (AllByRecursion Q) (AllByRecursion Q)
      (test_comes P (has_extend h.rules.items f) (done_comes P (AllByRecursion Q) below all.1)
      (below_comes below all.1))
      (λ rest _ more. then_comes P Q (AllByRecursion Q)
      (test_comes P (has_keepend h.rules.items f) (at_start_comes f all.0)
      (done_comes P Q f all.0))
      (λ g _ q. done_comes P (AllByRecursion Q) (g ∷ rest) (q, more)))

  pub start_comes : (fs : List Frame) → AllByRecursion Q fs →
      ComesTo P (AllByRecursion Q) (line_start h fs)
  start_comes [] all = done_comes P (AllByRecursion Q) [] tt
  start_comes (f ∷ below) all =
      then_comes P (AllByRecursion Q) (AllByRecursion Q)
      (test_comes P (has_extend h.rules.items f) (done_comes P (AllByRecursion Q) below all.1)
      (below_comes below all.1))
      (λ rest _ more. then_comes P Q (AllByRecursion Q) (at_start_comes f all.0)
      (λ g _ q. done_comes P (AllByRecursion Q) (g ∷ rest) (q, more)))

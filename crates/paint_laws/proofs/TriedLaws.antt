-- What starts hasn't been tried at the place before, and is tried from then on; closing tries
-- nothing.
use Rattle.std.proofs.Common.{◌≡◌, ◌+◌, ℕ, zero, suc, Bool, true, false, List, [], ◌∷◌, length}
use Rattle.std.proofs.Common.{refl, ◌∙◌}
use Rattle.std.specs.Prelude.{Option, Some, None, ◌&&◌, ◌||◌, is_none, nat_eq, reverse}
use Rattle.syn_base.specs.declared.places.ItemId.{ItemId}
use Rattle.syntax_set.specs.declared.item.ItemKind.{ItemKind}
use Rattle.syntax_set.specs.declared.item.ItemKind.TheVariants.{Keyword, Match, Region}
use Rattle.syntax_set.specs.declared.item.Pattern.{Pattern}
use Rattle.paint_rules.specs.Frames.{Frame}
use Rattle.paint_rules.specs.Painted.{Painted, done}
use Rattle.paint_rules.specs.Rules.{Here, Matched, Cause, item_of, place_at}
use Rattle.paint_rules.specs.States.{Standing}
use Rattle.paint_rules.specs.EndInLine.{end_in_line, search_from}
use Rattle.paint_rules.specs.ItemMatch.{item_match}
use Rattle.paint_rules.specs.Close.{Closing, Stays, BecomesArea, Leaves, LeavesArea}
use Rattle.paint_rules.specs.Close.{body_after_area, frames_after, close_top, close_once, closed_in}
use Rattle.paint_rules.specs.Close.{closed}
use Rattle.paint_rules.specs.Pick.{Starting, AWord, AMatch, AnEmpty, ARegion, match_start}
use Rattle.paint_rules.specs.Pick.{region_start, start_by, pushed, area_pushed, started}
use Rattle.paint_laws.specs.Starts.{starter}
use Rattle.paint_laws.proofs.OutcomeLaws.{Tells, then_tells, after_tells, done_tells, weaker_tells}
use Rattle.paint_laws.proofs.OutcomeLaws.{tested_tells, OfSome, first_tells, each_true}

abbrev pub Keeps : Standing → Standing → Type 0
Keeps s t = t.tried ≡ s.tried

module _ (h : Here) (c : ℕ) where
  top_keeps : (s : Standing) (top : Frame) (below : List Frame) (how : Closing) →
      Tells (OfSome (Keeps s)) (close_top h c s top below how)
  top_keeps s top below Stays = done_tells (OfSome (Keeps s)) None tt
  top_keeps s top below BecomesArea = record { holds = refl }
  top_keeps s top below LeavesArea =
      then_tells (OfSome (Keeps s)) (body_after_area h below) _
      (λ frames g. record { holds = refl })
  top_keeps s top below Leaves =
      then_tells (OfSome (Keeps s)) (frames_after h c top below) _
      (λ frames g. record { holds = refl })

  once_keeps : (s : Standing) (frames : List Frame) →
      Tells (OfSome (Keeps s)) (close_once h c s frames)
  once_keeps s [] = done_tells (OfSome (Keeps s)) None tt
  once_keeps s (top ∷ below) = top_keeps s top below _

  closed_in_keeps : (n : ℕ) (s : Standing) → Tells (Keeps s) (closed_in n h c s)
  closed_in_keeps zero s = done_tells (Keeps s) s refl
  closed_in_keeps (suc n) s =
      after_tells (OfSome (Keeps s)) (Keeps s) (close_once h c s s.stack) _ (once_keeps s s.stack)
      (by_next (closed_in_keeps n))
    where
      by_next : ((more : Standing) → Tells (Keeps more) (closed_in n h c more)) →
          (next : Option Standing) → OfSome (Keeps s) next →
          Tells (Keeps s)
          (elim next as (λ _. Painted Cause Standing)
          [ None ↦ done s | Some more ↦ closed_in n h c more ])
      by_next go None k = done_tells (Keeps s) s refl
      by_next go (Some more) k =
          weaker_tells (Keeps more) (Keeps s) (closed_in n h c more) (λ t e. e ∙ k) (go more)

  pub closed_keeps : (s : Standing) → Tells (Keeps s) (closed h c s)
  closed_keeps s = closed_in_keeps (length s.stack + length s.stack) s

  -- a start is tried from then on
  abbrev pub Tries : Standing → ItemId → Standing → Type 0
  Tries s i t = t.tried ≡ i ∷ s.tried

  pub started_tries : (s : Standing) (starting : Starting) →
      Tells (Tries s (starter starting)) (started h c s starting)
  started_tries s (AWord i end) =
      then_tells (Tries s i) (pushed _ s.stack) _ (λ stack g. record { holds = refl })
  started_tries s (AMatch i pattern m) =
      then_tells (Tries s i) (pushed _ s.stack) _ (λ stack g. record { holds = refl })
  started_tries s (AnEmpty i) = record { holds = refl }
  started_tries s (ARegion i pattern m end) =
      then_tells (Tries s i) (pushed _ s.stack) _
      (λ body g. then_tells (Tries s i) (area_pushed h c i pattern m body) _
      (λ stack k. record { holds = refl }))

  -- an item's start is its own
  abbrev pub IsOf : ItemId → Starting → Type 0
  IsOf i starting = starter starting ≡ i

  match_by : (i : ItemId) (pattern : Pattern) (m : Matched) (v w : Bool) → OfSome (IsOf i)
      (elim v as (λ _. Option Starting) [
        | true ↦ Some (AMatch i pattern m)
        | false ↦ elim w as (λ _. Option Starting)
            [ true ↦ Some (AnEmpty i) | false ↦ None ]
      ])
  match_by i pattern m true w = refl
  match_by i pattern m false true = refl
  match_by i pattern m false false = tt

  match_is_of : (i : ItemId) (pattern : Pattern) (o : Option Matched) →
      OfSome (IsOf i) (match_start h c i pattern o)
  match_is_of i pattern None = tt
  match_is_of i pattern (Some m) = match_by i pattern m _ _

  region_is_of : (i : ItemId) (pattern : Pattern) (o : Option Matched) →
      Tells (OfSome (IsOf i)) (region_start h i pattern o)
  region_is_of i pattern None = done_tells (OfSome (IsOf i)) None tt
  region_is_of i pattern (Some m) =
      let oneline = (item_of h.rules.items i).oneline in
      tested_tells (oneline || nat_eq m.to.line h.line)
      (then_tells (OfSome (IsOf i)) (end_in_line (search_from h i m.externals m.to)) _
      (λ end g. tested_tells (oneline && is_none end) (done_tells (OfSome (IsOf i)) None tt)
      (done_tells (OfSome (IsOf i)) (Some (ARegion i pattern m end)) refl)))
      (done_tells (OfSome (IsOf i)) (Some (ARegion i pattern m None)) refl)

  pub start_is_of : (floor : ℕ) (i : ItemId) (kind : ItemKind) →
      Tells (OfSome (IsOf i)) (start_by h c floor i kind)
  start_is_of floor i Keyword = done_tells (OfSome (IsOf i)) None tt
  start_is_of floor i (Match pattern) =
      then_tells (OfSome (IsOf i))
      (item_match h.rules h.text i pattern (place_at h.line c) floor) _
      (λ m g. record { holds = match_is_of i pattern m })
  start_is_of floor i (Region starts skip ends) =
      first_tells (λ _. Unit {0}) (IsOf i) _ (reverse starts) (each_true (reverse starts))
      (λ pattern _. then_tells (OfSome (IsOf i))
      (item_match h.rules h.text i pattern (place_at h.line c) floor) _
      (λ m g. region_is_of i pattern m))

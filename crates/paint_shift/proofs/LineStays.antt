-- A line's painting looks at lines of the text alone, and at its own.
use Rattle.std.proofs.Common.{◌<◌, ◌+◌, ℕ, zero, suc, arith, Bool, List, [], ◌∷◌, length, refl}
use Rattle.std.specs.Prelude.{Option, Some, None, ℤ, pos, ◌≤ℤ◌, nat_lt, nat_eq, ◌&&◌, ◌||◌, not}
use Rattle.std.specs.Prelude.{is_none, reverse}
use Rattle.std.specs.Option.{option_map}
use Rattle.std.specs.List.{filter}
use Rattle.std.proofs.lemmas.Int.{ints}
use Rattle.syn_base.specs.declared.looked.Looked.{Looked}
use Rattle.syn_base.specs.Looked.{one_line, hull_of, lesser, greater}
use Rattle.syn_base.specs.declared.places.ItemId.{ItemId}
use Rattle.match_rules.specs.Ways.{Text}
use Rattle.syntax_set.specs.declared.item.ItemKind.{ItemKind}
use Rattle.syntax_set.specs.declared.item.ItemKind.TheVariants.{Keyword, Match, Region}
use Rattle.syntax_set.specs.declared.item.Pattern.{Pattern}
use Rattle.paint_rules.specs.declared.Spot.TheVariants.{At}
use Rattle.paint_rules.specs.declared.Waiting.{Waiting}
use Rattle.paint_rules.specs.Frames.{Frame}
use Rattle.paint_rules.specs.Painted.{Painted, Done, Refused, looked_both, looked_first, done}
use Rattle.paint_rules.specs.Painted.{◌>>=◌}
use Rattle.paint_rules.specs.Rules.{Rules, Here, Matched, Cause, this_line, item_of, place_at}
use Rattle.paint_rules.specs.States.{State, Standing, stale}
use Rattle.paint_rules.specs.Lists.{is_next}
use Rattle.paint_rules.specs.KeptEnd.{has_extend, has_keepend}
use Rattle.paint_rules.specs.Close.{is_region_body, with_end, searched, search_col, searched_if}
use Rattle.paint_rules.specs.Close.{searched_anew, is_open, at_line_start, below_at_line_start}
use Rattle.paint_rules.specs.Close.{line_start, Closing, Stays as Remains, BecomesArea, Leaves}
use Rattle.paint_rules.specs.Close.{LeavesArea, col_here, body_after_area, untouched}
use Rattle.paint_rules.specs.Close.{anew_over_keepend, exposed_anew, frames_after, close_top}
use Rattle.paint_rules.specs.Close.{close_once, closed_in, closed}
use Rattle.paint_rules.specs.Pick.{Starting, AWord, AMatch, AnEmpty, ARegion, match_start}
use Rattle.paint_rules.specs.Pick.{region_start, start_by, items_below, is_tried, start_among}
use Rattle.paint_rules.specs.Pick.{keyword_at, is_allowed, or_nothing, Picked, Start, SkipOn}
use Rattle.paint_rules.specs.Pick.{Nothing, picked_allowed, picked_waiting, picked, waits_on}
use Rattle.paint_rules.specs.Pick.{most_frames, pushed, area_pushed, body_frame, body_with_end}
use Rattle.paint_rules.specs.Pick.{started}
use Rattle.paint_rules.specs.Line.{turns, column, Refusal, state_of, joined, shown, painted_from}
use Rattle.paint_rules.specs.Line.{at_line_begin, painted_after_look, painted_line}
use Rattle.paint_shift.specs.AboutLine.{LooksAbout}
use Rattle.paint_shift.specs.Elsewhere.{looked_of}
use Rattle.paint_shift.proofs.StayLaws.{IsOn, AreOn, OfSome, Any, Stays, StaysBy, then_stays}
use Rattle.paint_shift.proofs.StayLaws.{done_stays, test_stays, choice_stays, found_stays}
use Rattle.paint_shift.proofs.StayLaws.{renamed_stays, any_stays, all_any, some_any, both_on}
use Rattle.paint_shift.proofs.EndStays.{EndsOn, AttemptsStay, item_match_stays, search_stays}

module _ (r : Rules) (t : Text) (local : AttemptsStay r t) (k : ℕ) (on : k < length t) where
  abbrev h : Here
  h = record { rules = r; text = t; line = k }

  searched_stays : (f : Frame) (c : ℕ) → Stays t Any (searched h f c)
  searched_stays f c =
      then_stays t (search_stays r t local f.item f.externals (place_at k c) (omega (arith, on)))
      (λ o _. done_stays t Any (with_end h f o) tt)

  if_stays : (f : Frame) (o : Option ℕ) → Stays t Any (searched_if h f o)
  if_stays f None = done_stays t Any f tt
  if_stays f (Some c) = searched_stays f c

  anew_stays : (c : ℕ) (f : Frame) → Stays t Any (searched_anew h c f)
  anew_stays c f =
      test_stays t (is_region_body r f) (if_stays f (search_col c f.search)) (done_stays t Any f tt)

  at_start_stays : (f : Frame) → Stays t Any (at_line_start h f)
  at_start_stays f = test_stays t (is_open f.known_end) (anew_stays 0 f) (done_stays t Any f tt)

  below_stays : (fs : List Frame) → Stays t Any (below_at_line_start h fs)
  below_stays [] = done_stays t Any [] tt
  below_stays (f ∷ below) =
      then_stays t {P = Any}
      (test_stays t (has_extend r.items f) (done_stays t Any below tt) (below_stays below))
      (λ rest _. then_stays t {P = Any}
      (test_stays t (has_keepend r.items f) (at_start_stays f) (done_stays t Any f tt))
      (λ g _. done_stays t Any (g ∷ rest) tt))

  start_stays : (fs : List Frame) → Stays t Any (line_start h fs)
  start_stays [] = done_stays t Any [] tt
  start_stays (f ∷ below) =
      then_stays t {P = Any}
      (test_stays t (has_extend r.items f) (done_stays t Any below tt) (below_stays below))
      (λ rest _. then_stays t {P = Any} (at_start_stays f) (λ g _. done_stays t Any (g ∷ rest) tt))

  body_stays : (fs : List Frame) → Stays t Any (body_after_area h fs)
  body_stays [] = done_stays t Any [] tt
  body_stays (f ∷ below) =
      then_stays t {P = Any}
      (test_stays t (is_region_body r f && is_none f.known_end)
      (if_stays f (col_here f.search)) (done_stays t Any f tt))
      (λ g _. done_stays t Any (g ∷ below) tt)

  over_stays : (c : ℕ) (fs : List Frame) → Stays t Any (anew_over_keepend h c fs)
  over_stays c [] = done_stays t Any (untouched []) tt
  over_stays c (f ∷ below) =
      then_stays t {P = Any}
      (test_stays t (has_extend r.items f) (done_stays t Any (untouched below) tt)
      (over_stays c below))
      (λ rest _. then_stays t {P = Any}
      (test_stays t (rest.over || has_keepend r.items f) (anew_stays c f)
      (done_stays t Any f tt))
      (λ g _. done_stays t Any
      (record { frames = g ∷ rest.frames; over = rest.over || has_keepend r.items f }) tt))

  exposed_stays : (c : ℕ) (v : Bool) (fs : List Frame) → Stays t Any (exposed_anew h c v fs)
  exposed_stays c v [] = done_stays t Any [] tt
  exposed_stays c v (f ∷ below) =
      then_stays t {P = Any}
      (test_stays t (v || has_keepend r.items f) (done_stays t Any f tt) (anew_stays c f))
      (λ g _. done_stays t Any (g ∷ below) tt)

  after_stays : (c : ℕ) (popped : Frame) (below : List Frame) →
      Stays t Any (frames_after h c popped below)
  after_stays c popped below =
      then_stays t {P = Any}
      (test_stays t (has_extend r.items popped) (over_stays c below)
      (done_stays t Any (untouched below) tt))
      (λ anew _. exposed_stays c anew.over anew.frames)

  top_stays : (c : ℕ) (s : Standing) (top : Frame) (below : List Frame) (how : Closing) →
      Stays t Any (close_top h c s top below how)
  top_stays c s top below Remains = done_stays t Any None tt
  top_stays c s top below BecomesArea = record { stays = (tt, tt) }
  top_stays c s top below LeavesArea =
      then_stays t {P = Any} (body_stays below) (λ frames _. record { stays = (tt, tt) })
  top_stays c s top below Leaves =
      then_stays t {P = Any} (after_stays c top below) (λ frames _. record { stays = (tt, tt) })

  once_stays : (c : ℕ) (s : Standing) (fs : List Frame) → Stays t Any (close_once h c s fs)
  once_stays c s [] = done_stays t Any None tt
  once_stays c s (top ∷ below) = top_stays c s top below _

  closed_in_stays : (n c : ℕ) (s : Standing) → Stays t Any (closed_in n h c s)
  closed_in_stays zero c s = done_stays t Any s tt
  closed_in_stays (suc n) c s =
      then_stays t {P = Any} (once_stays c s s.stack)
      (λ next _. choice_stays t {P = Any} next (some_any next) (done_stays t Any s tt)
      (λ more _. closed_in_stays n c more))

  closed_stays : (c : ℕ) (s : Standing) → Stays t Any (closed h c s)
  closed_stays c s = closed_in_stays (length s.stack + length s.stack) c s

  -- ---- what starts

  region_stays : (i : ItemId) (pattern : Pattern) (o : Option Matched) → OfSome (EndsOn t) o →
      Stays t Any (region_start h i pattern o)
  region_stays i pattern None e = done_stays t Any None tt
  region_stays i pattern (Some m) e =
      let oneline = (item_of r.items i).oneline in
      test_stays t (oneline || nat_eq m.to.line k)
      (then_stays t {P = Any} (search_stays r t local i m.externals m.to e)
      (λ end _. test_stays t (oneline && is_none end) (done_stays t Any None tt)
      (done_stays t Any (Some (ARegion i pattern m end)) tt)))
      (done_stays t Any (Some (ARegion i pattern m None)) tt)

  some_stays : {E A : Type 0} {p : Painted E (Option A)} → Stays t Any p → Stays t (OfSome Any) p
  some_stays {p = p} s = record { stays = by_case p s.stays }
    where
      by_case : {E A : Type 0} (p : Painted E (Option A)) → StaysBy t Any p →
          StaysBy t (OfSome Any) p
      by_case (Done o k) s = (s.0, some_any o)
      by_case (Refused c k) s = s

  by_stays : (c floor : ℕ) (i : ItemId) (kind : ItemKind) → Stays t Any (start_by h c floor i kind)
  by_stays c floor i Keyword = done_stays t Any None tt
  by_stays c floor i (Match pattern) =
      then_stays t (item_match_stays r t local i pattern (place_at k c) floor (omega (arith, on)))
      (λ m e. done_stays t Any (match_start h c i pattern m) tt)
  by_stays c floor i (Region starts skip ends) =
      any_stays t
      (found_stays t Any Any _ (reverse starts) (all_any (reverse starts))
      (λ pattern _. some_stays
      (then_stays t
      (item_match_stays r t local i pattern (place_at k c) floor (omega (arith, on)))
      (λ m e. region_stays i pattern m e))))

  among_stays : (c : ℕ) (s : Standing) (admits : ItemId → Bool) →
      Stays t Any (start_among h c s admits)
  among_stays c s admits =
      let free = λ (i : ItemId). not (is_tried s i) && admits i in
      let items = filter free (items_below (length r.items)) in
      choice_stays t {P = Any} (keyword_at r free (this_line h) c)
      (some_any (keyword_at r free (this_line h) c))
      (any_stays t
      (found_stays t Any Any _ items (all_any items)
      (λ i _. some_stays (by_stays c s.floor i (item_of r.items i).kind))))
      (λ w _. done_stays t Any (Some (AWord w.item w.end)) tt)

  allowed_stays : (c : ℕ) (s : Standing) → Stays t Any (picked_allowed h c s)
  allowed_stays c s =
      then_stays t {P = Any} (among_stays c s (is_allowed r s.stack))
      (λ o _. done_stays t Any (or_nothing o) tt)

  waiting_stays : (c : ℕ) (s : Standing) (o : Option Waiting) → Stays t Any (picked_waiting h c s o)
  waiting_stays c s None = allowed_stays c s
  waiting_stays c s (Some w) =
      then_stays t {P = Any} (among_stays c s (is_next r w.item))
      (λ o _. choice_stays t {P = Any} o (some_any o)
      (test_stays t (waits_on r (this_line h) c w) (done_stays t Any SkipOn tt) (allowed_stays c s))
      (λ a _. done_stays t Any (Start a) tt))

  picked_stays : (c : ℕ) (s : Standing) → Stays t Any (picked h c s)
  picked_stays c s = waiting_stays c s s.waiting

  pushed_stays : (f : Frame) (stack : List Frame) → Stays t Any (pushed f stack)
  pushed_stays f stack =
      test_stays t (nat_lt (length stack) most_frames) (done_stays t Any (f ∷ stack) tt)
      (record { stays = tt })

  area_stays : (c : ℕ) (i : ItemId) (pattern : Pattern) (m : Matched) (stack : List Frame) →
      Stays t Any (area_pushed h c i pattern m stack)
  area_stays c i pattern m stack =
      choice_stays t {P = Any} pattern.matchgroup (some_any pattern.matchgroup)
      (done_stays t Any stack tt) (λ g _. pushed_stays _ stack)

  started_stays : (c : ℕ) (s : Standing) (starting : Starting) →
      Stays t Any (started h c s starting)
  started_stays c s (AWord i end) =
      then_stays t {P = Any} (pushed_stays _ s.stack) (λ stack _. record { stays = (tt, tt) })
  started_stays c s (AMatch i pattern m) =
      then_stays t {P = Any} (pushed_stays _ s.stack) (λ stack _. record { stays = (tt, tt) })
  started_stays c s (AnEmpty i) = record { stays = (tt, tt) }
  started_stays c s (ARegion i pattern m end) =
      then_stays t {P = Any}
      (pushed_stays (body_with_end h (body_frame h c i pattern m) end) s.stack)
      (λ body _. then_stays t {P = Any} (area_stays c i pattern m body)
      (λ stack _. record { stays = (tt, tt) }))

  -- ---- the line

  turns_stay : (n c : ℕ) (s : Standing) → Stays t Any (turns n h c s)
  turns_stay zero c s = done_stays t Any s tt
  turns_stay (suc n) c s =
      then_stays t {P = Any} (closed_stays c s)
      (λ s _. then_stays t {P = Any} (picked_stays c s) (λ pick _. by_pick (turns_stay n c) s pick))
    where
      by_pick : ((s : Standing) → Stays t Any (turns n h c s)) → (s : Standing) (pick : Picked) →
          Stays t Any (elim pick as (λ _. Painted Cause Standing) [
            | Start starting ↦ started h c s starting >>= (λ s. turns n h c s)
            | SkipOn ↦ done s
            | Nothing ↦ done (record s { waiting = None })
          ])
      by_pick go s (Start starting) =
          then_stays t {P = Any} (started_stays c s starting) (λ s _. go s)
      by_pick go s SkipOn = done_stays t Any s tt
      by_pick go s Nothing = done_stays t Any (record s { waiting = None }) tt

  column_stays : (c : ℕ) (s : Standing) → Stays t Any (column h c s)
  column_stays c s =
      turns_stay (suc (length r.items)) c
      (record s { tried = []; waiting = option_map stale s.waiting })

  from_stays : (c : ℕ) (line : List ℕ) (s : Standing) → Stays t Any (painted_from h c line s)
  from_stays c [] s =
      then_stays t {P = Any}
      (renamed_stays t (λ cause. record { col = c; cause = cause }) (column_stays c s))
      (λ s _. done_stays t Any (record { spans = []; after = state_of s }) tt)
  from_stays c (x ∷ line) s =
      then_stays t {P = Any}
      (renamed_stays t (λ cause. record { col = c; cause = cause }) (column_stays c s))
      (λ s _. then_stays t {P = Any} (from_stays (suc c) line s)
      (λ rest _. done_stays t Any
      (record rest { spans = joined c (shown r (At 0 c) s.stack) rest.spans }) tt))

  line_stays : (before : State) → Stays t Any (painted_after_look h before)
  line_stays before =
      then_stays t {P = Any}
      (renamed_stays t (λ cause. record { col = 0; cause = cause }) (start_stays before.stack))
      (λ stack _. from_stays 0 (this_line h) (at_line_begin before stack))

  -- ---- with its own line

  low_own : (a b : ℤ) → lesser a b ≤ℤ a
  low_own a b = grind (arith, ints)

  high_own : (a b : ℤ) → a ≤ℤ greater a b
  high_own a b = grind (arith, ints)

  own_on : IsOn t (one_line (pos k))
  own_on = record { from = omega (arith, ints); to = omega (arith, ints, on) }

  about : (o : Option Looked) → AreOn t o → LooksAbout t k (looked_both (Some (one_line (pos k))) o)
  about None g = record {
    lines = one_line (pos k);
    are = refl;
    about = record {
      from_before_first = own_on.from;
      low_to_start = omega (arith, ints);
      high_from_start = omega (arith, ints);
      to_behind_last = own_on.to;
    };
  }
  about (Some l) g =
      let both : IsOn t (hull_of (one_line (pos k)) l) =
      both_on t (Some (one_line (pos k))) (Some l) own_on g in
      record {
        lines = hull_of (one_line (pos k)) l;
        are = refl;
        about = record {
          from_before_first = both.from;
          low_to_start = low_own (pos k) l.low;
          high_from_start = high_own (pos k) l.high;
          to_behind_last = both.to;
        };
      }

  about_first : {A : Type 0} (p : Painted Refusal A) → Stays t Any p →
      LooksAbout t k (looked_of (looked_first (Some (one_line (pos k))) p))
  about_first (Done a o) s = about o (let both : AreOn t o × Unit {0} = s.stays in both.0)
  about_first (Refused c o) s = about o s.stays

  pub looks_about : (before : State) → LooksAbout t k (looked_of (painted_line h before))
  looks_about before = about_first (painted_after_look h before) (line_stays before)

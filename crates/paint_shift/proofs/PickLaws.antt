-- A pick, and what it pushes, are alike in two texts.
use Rattle.std.proofs.Common.{◌≡◌, ℕ, Bool, true, false, List, ◌∷◌, length, refl, ap, ◌∙◌}
use Rattle.std.specs.Prelude.{Option, Some, None, nat_lt, nat_eq, ◌&&◌, ◌||◌, not, is_none, reverse}
use Rattle.std.specs.List.{filter}
use Rattle.syn_base.specs.declared.places.Place.{Place}
use Rattle.match_rules.specs.Ways.{line_at}
use Rattle.syn_base.specs.declared.places.ItemId.{ItemId}
use Rattle.syn_base.specs.declared.places.GroupId.{GroupId}
use Rattle.syntax_set.specs.declared.item.ItemKind.{ItemKind}
use Rattle.syntax_set.specs.declared.item.ItemKind.TheVariants.{Keyword, Match, Region}
use Rattle.syntax_set.specs.declared.item.Pattern.{Pattern}
use Rattle.paint_rules.specs.declared.Which.TheVariants.{Me, Hs, He, Rs}
use Rattle.paint_rules.specs.Frames.{Frame}
use Rattle.paint_rules.specs.declared.Part.TheVariants.{StartArea}
use Rattle.paint_rules.specs.declared.Spot.TheVariants.{At}
use Rattle.paint_rules.specs.declared.Waiting.{Waiting}
use Rattle.paint_rules.specs.Rules.{Matched, Here, item_of, place_at}
use Rattle.paint_rules.specs.Offsets.{offset_place, later_place}
use Rattle.paint_rules.specs.Lists.{is_next}
use Rattle.paint_rules.specs.declared.RegionEnd.{RegionEnd}
use Rattle.paint_rules.specs.EndInLine.{end_in_line}
use Rattle.paint_rules.specs.States.{Standing}
use Rattle.paint_rules.specs.Close.{waiting_after}
use Rattle.paint_rules.specs.Pick.{Starting, AWord, AMatch, AnEmpty, ARegion, Start, SkipOn}
use Rattle.paint_rules.specs.Pick.{is_allowed, keyword_at, match_start, region_start, start_by}
use Rattle.paint_rules.specs.Pick.{items_below, is_tried, start_among, or_nothing, picked_allowed}
use Rattle.paint_rules.specs.Pick.{picked_waiting, picked, waits_on, most_frames, pushed}
use Rattle.paint_rules.specs.Pick.{started_at, word_frame, match_frame, body_from, body_frame}
use Rattle.paint_rules.specs.Pick.{body_with_end, area_pushed, between, area_frame, started}
use Rattle.paint_shift.proofs.Shift.{Two, IsMoved, Alike, OnBoth, IsPresent, IsSeenMatch}
use Rattle.paint_shift.proofs.Shift.{IsMovedEnd, IsMovedStart, word, «match», empty, region}
use Rattle.paint_shift.proofs.Shift.{IsMovedPick, start, skip, nothing, AttemptsAreLocal}
use Rattle.paint_shift.proofs.Shift.{search_one, search_other}
use Rattle.paint_shift.proofs.AlikeLaws.{bind_alike, bind_same, done_alike, by_test, by_option}
use Rattle.paint_shift.proofs.AlikeLaws.{by_equal, first_found_alike, Same, done_same, done_equal}
use Rattle.paint_shift.proofs.PlaceLaws.{place_moved, line_eq_moved, after_moved, later_moved}
use Rattle.paint_shift.proofs.PlaceLaws.{earlier_moved, offset_place_moved}
use Rattle.paint_shift.proofs.MatchLaws.{item_match_alike}
use Rattle.paint_shift.proofs.EndLaws.{end_in_line_alike, Each-true}
use Rattle.paint_shift.proofs.CloseLaws.{one, other, spot_same, with_end_same}

module _ (two : Two) (local : AttemptsAreLocal two) (k j : ℕ) (h : IsPresent two k j) where
  abbrev pub here : Here
  here = one two local k j h

  abbrev pub there : Here
  there = other two local k j h

  at_moved : (c : ℕ) → IsMoved two (place_at k c) (place_at j c)
  at_moved c = place_moved two k j c h.same.moved

  match_by : (i : ItemId) (pattern : Pattern) (m n : Matched) → IsSeenMatch two m n →
      (v w x : Bool) → w ≡ v →
      OnBoth (IsMovedStart two)
      (elim v as (λ _. Option Starting) [
        | true ↦ Some (AMatch i pattern m)
        | false ↦ elim x as (λ _. Option Starting)
            [ true ↦ Some (AnEmpty i) | false ↦ None ]
      ])
      (elim w as (λ _. Option Starting) [
        | true ↦ Some (AMatch i pattern n)
        | false ↦ elim x as (λ _. Option Starting)
            [ true ↦ Some (AnEmpty i) | false ↦ None ]
      ])
  match_by i pattern m n seen true true x e = «match» seen
  match_by i pattern m n seen false false true e = empty
  match_by i pattern m n seen false false false e = tt
  match_by i pattern m n seen true false x e = absurd (cc)
  match_by i pattern m n seen false true x e = absurd (cc)

  match_start_moved : (c : ℕ) (i : ItemId) (pattern : Pattern) (o r : Option Matched) →
      OnBoth (IsSeenMatch two) o r →
      OnBoth (IsMovedStart two) (match_start here c i pattern o) (match_start there c i pattern r)
  match_start_moved c i pattern None None m = tt
  match_start_moved c i pattern (Some a) (Some b) m =
      match_by i pattern a b m _ _ _
      (after_moved two _ _ (place_at k c) (place_at j c)
      (offset_place_moved two a b pattern Me m) (at_moved c))
  match_start_moved c i pattern None (Some b) m = absurd m
  match_start_moved c i pattern (Some a) None m = absurd m

  none_same : (o r : Option RegionEnd) → OnBoth (IsMovedEnd two) o r → is_none r ≡ is_none o
  none_same None None m = refl
  none_same (Some e) (Some d) m = refl
  none_same None (Some d) m = absurd m
  none_same (Some e) None m = absurd m

  search_alike : (i : ItemId) (a b : Matched) → IsSeenMatch two a b →
      Alike two (OnBoth (IsMovedEnd two)) (end_in_line (search_one two i a.externals a.to))
      (end_in_line (search_other two i b.externals b.to))
  search_alike i a b m =
      rw m.moved.externals (end_in_line_alike two local i a.externals a.to b.to m.moved.to)

  region_start_alike : (i : ItemId) (pattern : Pattern) (o r : Option Matched) →
      OnBoth (IsSeenMatch two) o r →
      Alike two (OnBoth (IsMovedStart two)) (region_start here i pattern o)
      (region_start there i pattern r)
  region_start_alike i pattern None None m = done_alike two (OnBoth (IsMovedStart two)) None None tt
  region_start_alike i pattern (Some a) (Some b) m =
      let oneline = (item_of two.rules.items i).oneline in
      by_test two (oneline || nat_eq (a.to).line k) (oneline || nat_eq (b.to).line j)
      (ap (λ v. oneline || v)
      (line_eq_moved two (a.to).line (b.to).line k j m.moved.to.line h.same.moved))
      (λ _. bind_alike two (search_alike i a b m)
      (λ o r both. by_test two (oneline && is_none o) (oneline && is_none r)
      (ap (λ v. oneline && v) (none_same o r both))
      (λ _. done_alike two (OnBoth (IsMovedStart two)) None None tt)
      (λ _. done_alike two (OnBoth (IsMovedStart two)) (Some (ARegion i pattern a o))
      (Some (ARegion i pattern b r)) (region m both))))
      (λ _. done_alike two (OnBoth (IsMovedStart two)) (Some (ARegion i pattern a None))
      (Some (ARegion i pattern b None)) (region m tt))
  region_start_alike i pattern None (Some b) m = absurd m
  region_start_alike i pattern (Some a) None m = absurd m

  start_by_alike : (c floor : ℕ) (i : ItemId) (kind : ItemKind) →
      Alike two (OnBoth (IsMovedStart two)) (start_by here c floor i kind)
      (start_by there c floor i kind)
  start_by_alike c floor i Keyword = done_alike two (OnBoth (IsMovedStart two)) None None tt
  start_by_alike c floor i (Match pattern) =
      bind_alike two
      (item_match_alike two local i pattern (place_at k c) (place_at j c) floor (at_moved c) h)
      (λ o r both. done_alike two (OnBoth (IsMovedStart two)) _ _
      (match_start_moved c i pattern o r both))
  start_by_alike c floor i (Region starts skips ends) =
      first_found_alike two (IsMovedStart two) (λ _. Unit {0}) _ _ (reverse starts)
      (Each-true (reverse starts))
      (λ pattern _. bind_alike two
      (item_match_alike two local i pattern (place_at k c) (place_at j c) floor (at_moved c) h)
      (λ o r both. region_start_alike i pattern o r both))

  start_among_alike : (c : ℕ) (s : Standing) (admits : ItemId → Bool) →
      Alike two (OnBoth (IsMovedStart two)) (start_among here c s admits)
      (start_among there c s admits)
  start_among_alike c s admits =
      let free = λ (i : ItemId). not (is_tried s i) && admits i in
      let items = filter free (items_below (length two.rules.items)) in
      by_equal two (keyword_at two.rules free (line_at two.one k) c)
      (keyword_at two.rules free (line_at two.other j) c)
      (ap (λ (line : List ℕ). keyword_at two.rules free line c) h.same.chars)
      (first_found_alike two (IsMovedStart two) (λ _. Unit {0}) _ _ items (Each-true items)
      (λ i _. start_by_alike c s.floor i (item_of two.rules.items i).kind))
      (λ w. done_alike two (OnBoth (IsMovedStart two)) (Some (AWord w.item w.end))
      (Some (AWord w.item w.end)) word)

  or_nothing_moved : (o r : Option Starting) → OnBoth (IsMovedStart two) o r →
      IsMovedPick two (or_nothing o) (or_nothing r)
  or_nothing_moved None None m = nothing
  or_nothing_moved (Some a) (Some b) m = start m
  or_nothing_moved None (Some b) m = absurd m
  or_nothing_moved (Some a) None m = absurd m

  picked_allowed_alike : (c : ℕ) (s : Standing) →
      Alike two (IsMovedPick two) (picked_allowed here c s) (picked_allowed there c s)
  picked_allowed_alike c s =
      bind_alike two (start_among_alike c s (is_allowed two.rules s.stack))
      (λ o r both. done_alike two (IsMovedPick two) _ _ (or_nothing_moved o r both))

  picked_waiting_alike : (c : ℕ) (s : Standing) (o : Option Waiting) →
      Alike two (IsMovedPick two) (picked_waiting here c s o) (picked_waiting there c s o)
  picked_waiting_alike c s None = picked_allowed_alike c s
  picked_waiting_alike c s (Some w) =
      bind_alike two (start_among_alike c s (is_next two.rules w.item))
      (λ o r both. by_option two {S = IsMovedPick two} o r both
      (by_test two (waits_on two.rules (line_at two.one k) c w)
      (waits_on two.rules (line_at two.other j) c w)
      (ap (λ (line : List ℕ). waits_on two.rules line c w) h.same.chars)
      (λ _. done_alike two (IsMovedPick two) SkipOn SkipOn skip) (λ _. picked_allowed_alike c s))
      (λ a b m. done_alike two (IsMovedPick two) (Start a) (Start b) (start m)))

  pub picked_alike : (c : ℕ) (s : Standing) →
      Alike two (IsMovedPick two) (picked here c s) (picked there c s)
  picked_alike c s = picked_waiting_alike c s s.waiting

  pushed_same : (f g : Frame) (stack : List Frame) → g ≡ f →
      Same two (pushed f stack) (pushed g stack)
  pushed_same f g stack e =
      rw e (by_test two (nat_lt (length stack) most_frames)
      (nat_lt (length stack) most_frames) refl (λ _. done_same two (f ∷ stack))
      (λ _. record { follows = λ _. refl }))

  module _ (c : ℕ) (i : ItemId) (pattern : Pattern) (a b : Matched) (m : IsSeenMatch two a b) where
    hs_moved : IsMoved two (offset_place two.one a pattern Hs) (offset_place two.other b pattern Hs)
    hs_moved = offset_place_moved two a b pattern Hs m

    between_moved : (w : _) →
        IsMoved two (between (place_at k c) (offset_place two.one a pattern Me)
        (offset_place two.one a pattern w))
        (between (place_at j c) (offset_place two.other b pattern Me)
        (offset_place two.other b pattern w))
    between_moved w =
        earlier_moved two _ _ _ _
        (later_moved two _ _ _ _ (offset_place_moved two a b pattern w m) (at_moved c))
        (offset_place_moved two a b pattern Me m)

    match_frame_same : match_frame there c i pattern b ≡ match_frame here c i pattern a
    match_frame_same = λ t. record (match_frame here c i pattern a) {
      known_end = Some (spot_same two local k j h _ _ (offset_place_moved two a b pattern Me m) t);
      high_from = spot_same two local k j h _ _ (between_moved Hs) t;
      high_to = Some (spot_same two local k j h _ _ (between_moved He) t);
      search = At 0 c;
    }

    body_from_moved : IsMoved two (body_from here c pattern a) (body_from there c pattern b)
    body_from_moved = later_moved two _ _ _ _ (offset_place_moved two a b pattern Rs m) (at_moved c)

    high_from_moved : (g : Option GroupId) → IsMoved two
        (elim g as (λ _. Place) [
          | Some g ↦ body_from here c pattern a
          | None ↦ later_place
              (offset_place two.one a pattern Hs) (place_at k c)
        ])
        (elim g as (λ _. Place) [
          | Some g ↦ body_from there c pattern b
          | None ↦ later_place
              (offset_place two.other b pattern Hs) (place_at j c)
        ])
    high_from_moved None = later_moved two _ _ _ _ hs_moved (at_moved c)
    high_from_moved (Some g) = body_from_moved

    body_frame_same : body_frame there c i pattern b ≡ body_frame here c i pattern a
    body_frame_same = λ t. record (body_frame here c i pattern a) {
      high_from = spot_same two local k j h _ _ (high_from_moved pattern.matchgroup) t;
      search = spot_same two local k j h _ _ m.moved.to t;
      externals = m.moved.externals t;
    }

    body_end_same : (o r : Option RegionEnd) → OnBoth (IsMovedEnd two) o r →
        body_with_end there (body_frame there c i pattern b) r
        ≡ body_with_end here (body_frame here c i pattern a) o
    body_end_same None None e = body_frame_same
    body_end_same (Some d) (Some g) e =
        with_end_same two local k j h (body_frame there c i pattern b) (Some d) (Some g) e
        ∙ ap (λ f. body_with_end here f (Some d)) body_frame_same
    body_end_same None (Some g) e = absurd e
    body_end_same (Some d) None e = absurd e

    area_same : (stack : List Frame) (g : Option GroupId) →
        Same two (area_pushed here c i (record pattern { matchgroup = g }) a stack)
        (area_pushed there c i (record pattern { matchgroup = g }) b stack)
    area_same stack None = done_same two stack
    area_same stack (Some g) = pushed_same _ _ stack (λ t. record (area_frame here c i pattern a g) {
      part = StartArea;
      shows = g;
      known_end = Some (spot_same two local k j h _ _ body_from_moved t);
      high_from = spot_same two local k j h _ _ hs_moved t;
      search = spot_same two local k j h _ _ m.moved.to t;
      externals = m.moved.externals t;
    })

  pub started_same : (c : ℕ) (s : Standing) {a b : Starting} → IsMovedStart two a b →
      Same two (started here c s a) (started there c s b)
  started_same c s (word {i = i} {e = e}) =
      bind_same two (pushed_same (word_frame here c i e) (word_frame there c i e) s.stack refl)
      (λ stack. done_same two (started_at c i s stack None))
  started_same c s («match» {i = i} {p = p} {m = m} {n = n} seen) =
      bind_same two (pushed_same _ _ s.stack (match_frame_same c i p m n seen))
      (λ stack. done_same two (started_at c i s stack None))
  started_same c s (empty {i = i}) =
      done_equal two _ _
      (ap (λ (line : List ℕ). started_at c i s s.stack
      (waiting_after two.rules line c i)) h.same.chars)
  started_same c s (region {i = i} {p = p} {m = m} {n = n} {e = e} {d = d} seen both) =
      bind_same two (pushed_same _ _ s.stack (body_end_same c i p m n seen e d both))
      (λ body. bind_same two (area_same c i p m n seen body p.matchgroup)
      (λ stack. done_same two (started_at c i s stack None)))

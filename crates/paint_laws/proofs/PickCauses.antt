-- A pick is refused for what an attempt costs, and a start for want of room on the stack.
use Rattle.std.proofs.Common.{◌≡◌, inl, inr, ◌<◌, ◌≤◌, ◌+◌, ℕ, suc, arith, Bool, true, false}
use Rattle.std.proofs.Common.{List, [], ◌∷◌, length, refl, sym, ap, subst}
use Rattle.std.specs.Prelude.{◌⊎◌, Option, Some, None, ◌&&◌, ◌||◌, not, nat_eq, nat_lt, is_none}
use Rattle.std.specs.Prelude.{reverse, Contains}
use Rattle.std.specs.List.{filter}
use Rattle.std.proofs.lemmas.Bool.Decides.{nat_tests}
use Rattle.syn_base.specs.declared.places.GroupId.{GroupId}
use Rattle.syn_base.specs.declared.places.ItemId.{ItemId}
use Rattle.syn_base.specs.declared.places.Place.{Place}
use Rattle.syntax_set.specs.declared.item.ItemKind.{ItemKind}
use Rattle.syntax_set.specs.declared.item.ItemKind.TheVariants.{Keyword, Match, Region}
use Rattle.syntax_set.specs.declared.item.Pattern.{Pattern}
use Rattle.paint_rules.specs.Frames.{Frame}
use Rattle.paint_rules.specs.declared.Waiting.{Waiting}
use Rattle.paint_rules.specs.Painted.{Painted, Refused, done}
use Rattle.paint_rules.specs.Rules.{Here, Matched, Cause, TooCostly, TooDeep, item_of, this_line}
use Rattle.paint_rules.specs.Rules.{no_externals, place_at}
use Rattle.paint_rules.specs.States.{Standing}
use Rattle.paint_rules.specs.Lists.{is_next}
use Rattle.paint_rules.specs.ItemMatch.{item_match}
use Rattle.paint_rules.specs.Pick.{Starting, AWord, AMatch, AnEmpty, ARegion, match_start}
use Rattle.paint_rules.specs.Pick.{region_start, start_by, items_below, is_tried, start_among}
use Rattle.paint_rules.specs.Pick.{keyword_at, is_allowed, or_nothing, Start, SkipOn}
use Rattle.paint_rules.specs.Pick.{picked_allowed, picked_waiting, picked, waits_on, most_frames}
use Rattle.paint_rules.specs.Pick.{pushed, area_pushed, body_frame, body_with_end, started}
use Rattle.paint_laws.specs.Outcomes.{Gives}
use Rattle.paint_laws.specs.Accepted.{cost_of, starts_of, IsLookedForFrom, IsOfEnd, MayStart}
use Rattle.paint_laws.specs.Accepted.{IsAwaited, LooksForStart, MatchesStart, frames_of}
use Rattle.paint_laws.proofs.AllowedLaws.{both_true}
use Rattle.paint_laws.proofs.CauseLaws.{ComesTo, Any, then_comes, done_comes, test_comes}
use Rattle.paint_laws.proofs.CauseLaws.{any_comes, choice_comes, found_comes}
use Rattle.paint_laws.proofs.EndCauses.{item_match_comes, search_comes}
use Rattle.paint_laws.proofs.MemberLaws.{members, reversed_members}
use Rattle.paint_laws.proofs.PickedLaws.{kept_pass, not_true}

-- where an attempt for what may start at a column, or for the end of a region that may start there,
-- has a cause
module _ (h : Here) (c : ℕ) (P : Cause → Type 0) (s : Standing)
    (costly : (i : ItemId) (pattern : Pattern) (place : Place) → LooksForStart h c s i pattern place →
    h.rules.budget < cost_of h.rules h.text i pattern no_externals place → P (TooCostly i))
    (ending : (i : ItemId) (m : Matched) (pattern : Pattern) (place : Place) →
    MatchesStart h c s i m → IsOfEnd (item_of h.rules.items i).kind pattern →
    IsLookedForFrom h.text m.to.line m.to.col pattern place →
    h.rules.budget < cost_of h.rules h.text i pattern m.externals place → P (TooCostly i)) where
  abbrev kind_of : ItemId → ItemKind
  kind_of i = (item_of h.rules.items i).kind

  match_comes : (i : ItemId) → MayStart h s i → (pattern : Pattern) →
      Contains (starts_of (kind_of i)) pattern →
      ComesTo P Any (item_match h.rules h.text i pattern (place_at h.line c) s.floor)
  match_comes i may pattern of =
      item_match_comes h.rules h.text P i pattern (place_at h.line c) s.floor
      (λ place at here over. costly i pattern place
      (record { may = may; of_start = of; at = at; here = here }) over)

  region_comes : (i : ItemId) → MayStart h s i → (pattern : Pattern) →
      Contains (starts_of (kind_of i)) pattern → (o : Option Matched) →
      Gives (item_match h.rules h.text i pattern (place_at h.line c) s.floor) o →
      ComesTo P Any (region_start h i pattern o)
  region_comes i may start of None g = done_comes P Any None tt
  region_comes i may start of (Some m) g =
      let oneline = (item_of h.rules.items i).oneline in
      test_comes P (oneline || nat_eq m.to.line h.line)
      (then_comes P Any Any
      (search_comes h.rules h.text P i m.externals m.to
      (λ pattern place end at over. ending i m pattern place
      (record { may = may; start = start; of_start = of; is = g }) end at over))
      (λ end _ _. test_comes P (oneline && is_none end) (done_comes P Any None tt)
      (done_comes P Any (Some (ARegion i start m end)) tt)))
      (done_comes P Any (Some (ARegion i start m None)) tt)

  by_comes : (i : ItemId) → MayStart h s i → (kind : ItemKind) → kind_of i ≡ kind →
      ComesTo P Any (start_by h c s.floor i kind)
  by_comes i may Keyword e = done_comes P Any None tt
  by_comes i may (Match pattern) e =
      then_comes P Any Any
      (match_comes i may pattern
      (subst (λ k. Contains (starts_of k) pattern) (sym e) (let m = members (pattern ∷ []) in m.0)))
      (λ m _ _. done_comes P Any (match_start h c i pattern m) tt)
  by_comes i may (Region starts skip ends) e =
      found_comes P (Contains starts) _ (reverse starts) (reversed_members starts)
      (λ pattern of. let own : Contains (starts_of (kind_of i)) pattern =
      subst (λ k. Contains (starts_of k) pattern) (sym e) of in
      then_comes P Any Any (match_comes i may pattern own)
      (λ m g _. region_comes i may pattern own m g))

  module _ (admits : ItemId → Bool)
      (admitted : (i : ItemId) → admits i ≡ true →
      (is_allowed h.rules s.stack i ≡ true) ⊎ IsAwaited h.rules s.waiting i) where
    abbrev free : ItemId → Bool
    free i = not (is_tried s i) && admits i

    may_start : (i : ItemId) → free i ≡ true → MayStart h s i
    may_start i e =
        let both = both_true (not (is_tried s i)) (admits i) e in
        record { untried = not_true (is_tried s i) both.0; admitted = admitted i both.1 }

    among_comes : ComesTo P Any (start_among h c s admits)
    among_comes =
        choice_comes P (keyword_at h.rules free (this_line h) c)
        (found_comes P (λ i. free i ≡ true) _ (filter free (items_below (length h.rules.items)))
        (kept_pass free (items_below (length h.rules.items)))
        (λ i f. by_comes i (may_start i f) (kind_of i) refl))
        (λ w _. done_comes P Any (Some (AWord w.item w.end)) tt)

  allowed_comes : ComesTo P Any (picked_allowed h c s)
  allowed_comes =
      then_comes P Any Any (among_comes (is_allowed h.rules s.stack) (λ i e. inl e))
      (λ o _ _. done_comes P Any (or_nothing o) tt)

  waiting_comes : (o : Option Waiting) → s.waiting ≡ o → ComesTo P Any (picked_waiting h c s o)
  waiting_comes None e = allowed_comes
  waiting_comes (Some w) e =
      then_comes P Any Any
      (among_comes (is_next h.rules w.item)
      (λ i f. inr (subst (λ o. IsAwaited h.rules o i) (sym e) f)))
      (λ o _ _. choice_comes P o
      (test_comes P (waits_on h.rules (this_line h) c w) (done_comes P Any SkipOn tt)
      allowed_comes)
      (λ a _. done_comes P Any (Start a) tt))

  pub picked_comes : ComesTo P Any (picked h c s)
  picked_comes = waiting_comes s.waiting refl

-- one more frame stands
abbrev IsHigher : List Frame → List Frame → Type 0
IsHigher fs gs = length gs ≡ suc (length fs)

abbrev areas : Option GroupId → ℕ
areas o = elim o [ None ↦ 1 | Some group ↦ 2 ]

some_areas : (o : Option GroupId) → 0 < areas o
some_areas None = omega arith
some_areas (Some g) = omega arith

module _ (P : Cause → Type 0) where
  pushed_comes : (f : Frame) (fs : List Frame) → (1000 ≤ length fs → P TooDeep) →
      ComesTo P (IsHigher fs) (pushed f fs)
  pushed_comes f fs deep = by_test (nat_lt (length fs) most_frames) refl
    where
      by_test : (b : Bool) → nat_lt (length fs) most_frames ≡ b → ComesTo P (IsHigher fs)
          (elim b as (λ _. Painted Cause (List Frame))
          [ true ↦ done (f ∷ fs) | false ↦ Refused TooDeep None ])
      by_test true e = record { holds = refl }
      by_test false e = record { holds = deep (grind (arith, nat_tests)) }

  area_comes : (h : Here) (c : ℕ) (i : ItemId) (pattern : Pattern) (m : Matched)
      (fs : List Frame) → ((g : GroupId) → pattern.matchgroup ≡ Some g → 1000 ≤ length fs →
      P TooDeep) → ComesTo P Any (area_pushed h c i pattern m fs)
  area_comes h c i pattern m fs deep =
      choice_comes P pattern.matchgroup (done_comes P Any fs tt)
      (λ g e. any_comes P (pushed_comes _ fs (deep g e)))

  -- a start is refused where more than 1,000 frames would stand
  pub started_comes : (h : Here) (c : ℕ) (s : Standing) (starting : Starting) →
      (1000 < length s.stack + frames_of starting → P TooDeep) →
      ComesTo P Any (started h c s starting)
  started_comes h c s (AWord i end) deep =
      then_comes P (IsHigher s.stack) Any
      (pushed_comes _ s.stack (λ many. deep (omega (arith, many))))
      (λ stack _ _. record { holds = tt })
  started_comes h c s (AMatch i pattern m) deep =
      then_comes P (IsHigher s.stack) Any
      (pushed_comes _ s.stack (λ many. deep (omega (arith, many))))
      (λ stack _ _. record { holds = tt })
  started_comes h c s (AnEmpty i) deep = record { holds = tt }
  started_comes h c s (ARegion i pattern m end) deep =
      let some : 0 < areas pattern.matchgroup = some_areas pattern.matchgroup in
      then_comes P (IsHigher s.stack) Any
      (pushed_comes (body_with_end h (body_frame h c i pattern m) end) s.stack
      (λ many. deep (omega (arith, many, some))))
      (λ body _ higher. then_comes P Any Any
      (area_comes h c i pattern m body
      (λ g e many. let two : areas pattern.matchgroup ≡ 2 = ap areas e in
      deep (omega (arith, many, two, higher))))
      (λ stack _ _. record { holds = tt }))

-- Attempts, and searches for an end, look at lines of the text alone.
use Rattle.std.proofs.Common.{◌≤◌, ◌-◌, ℕ, suc, arith, Bool, true, false, List, [], ◌∷◌, length}
use Rattle.std.specs.Prelude.{Option, Some, None, nat_lt, reverse}
use Rattle.std.specs.Option.{option_map}
use Rattle.std.specs.List.{AllByRecursion}
use Rattle.syn_base.specs.declared.places.ItemId.{ItemId}
use Rattle.syn_base.specs.declared.places.Place.{Place}
use Rattle.vim_pattern.specs.Tree.{PatternTree}
use Rattle.match_rules.specs.Ways.{Text, IsPlaceOf, line_at}
use Rattle.syntax_set.specs.declared.item.ItemKind.{ItemKind}
use Rattle.syntax_set.specs.declared.item.Pattern.{Pattern}
use Rattle.paint_rules.specs.declared.RegionEnd.{RegionEnd}
use Rattle.paint_rules.specs.declared.Which.TheVariants.{Me}
use Rattle.paint_rules.specs.Painted.{Painted, done, ◌>>=◌, first_found}
use Rattle.paint_rules.specs.Rules.{Rules, Matched, Cause, item_of, attempted, no_externals}
use Rattle.paint_rules.specs.Rules.{place_at}
use Rattle.paint_rules.specs.Offsets.{offset_place}
use Rattle.paint_rules.specs.ItemMatch.{columns_from, may_start, starts_at, looks_at_end}
use Rattle.paint_rules.specs.ItemMatch.{match_from, item_match}
use Rattle.paint_rules.specs.EndInLine.{Search, for_ends, Skip, NoSkip, SkipTo, SkipLine, skip_of}
use Rattle.paint_rules.specs.EndInLine.{ends_of, tried_at, end_made, end_at, skip_to, skip_at}
use Rattle.paint_rules.specs.EndInLine.{end_from, end_in_present, end_in_line}
use Rattle.paint_shift.proofs.PlaceLaws.{columns_on}
use Rattle.paint_shift.proofs.StayLaws.{IsOn, OfSome, Any, Stays, then_stays, done_stays}
use Rattle.paint_shift.proofs.StayLaws.{looks_stay, test_stays, choice_stays, found_stays, all_any}
use Rattle.paint_shift.proofs.StayLaws.{some_any}

-- a match that ends in a line of the text, or in the one behind its last
abbrev pub EndsOn : Text → Matched → Type 0
EndsOn t m = m.to.line ≤ length t

pub record AttemptStays (r : Rules) (t : Text) (tree : PatternTree) (ignore : Bool)
    (externals : List (List ℕ)) (p : Place) : Type 0 where
  pub looked : IsOn t (r.attempt t tree ignore externals p).looked
  pub found : OfSome (EndsOn t) (r.attempt t tree ignore externals p).found

abbrev pub AttemptsStay : Rules → Text → Type 0
AttemptsStay r t =
    (tree : PatternTree) (ignore : Bool) (externals : List (List ℕ)) (p : Place) → IsPlaceOf t p →
    AttemptStays r t tree ignore externals p

module _ (r : Rules) (t : Text) (local : AttemptsStay r t) where
  pub attempted_stays : (i : ItemId) (externals : List (List ℕ)) (pattern : Pattern) (p : Place) →
      IsPlaceOf t p →
      Stays t (OfSome (EndsOn t)) (attempted r t i externals pattern p)
  attempted_stays i externals pattern p h =
      let a = local pattern.tree (item_of r.items i).ignore externals p h in
      test_stays t
      (nat_lt r.budget (r.attempt t pattern.tree (item_of r.items i).ignore externals p).cost)
      (record { stays = a.looked }) (record { stays = (a.looked, a.found) })

  pub end_looks : (o : Option Matched) → OfSome (EndsOn t) o →
      Stays t (OfSome (EndsOn t)) (looks_at_end o)
  end_looks None h = done_stays t (OfSome (EndsOn t)) None tt
  end_looks (Some m) h =
      then_stays t (looks_stay t m.to.line h) (λ _ _. done_stays t (OfSome (EndsOn t)) (Some m) h)

  place_in : (l c : ℕ) → l ≤ length t → c ≤ length (line_at t l) → IsPlaceOf t (place_at l c)
  place_in l c h k = record { line = h; col = k }

  match_from_stays : (i : ItemId) (pattern : Pattern) (p : Place) (c : ℕ) → p.line ≤ length t →
      c ≤ length (line_at t p.line) →
      Stays t (OfSome (EndsOn t)) (match_from r t i pattern p c)
  match_from_stays i pattern p c h within =
      test_stays t (may_start t pattern p (place_at p.line c))
      (then_stays t
      (attempted_stays i no_externals pattern (place_at p.line c) (place_in p.line c h within))
      (λ m e. test_stays t (starts_at t pattern p m) (end_looks m e)
      (done_stays t (OfSome (EndsOn t)) None tt)))
      (done_stays t (OfSome (EndsOn t)) None tt)

  -- the match of an item at a place
  pub item_match_stays : (i : ItemId) (pattern : Pattern) (p : Place) (floor : ℕ) →
      p.line ≤ length t →
      Stays t (OfSome (EndsOn t)) (item_match r t i pattern p floor)
  item_match_stays i pattern p floor h =
      found_stays t (EndsOn t) (λ c. c ≤ length (line_at t p.line)) (match_from r t i pattern p)
      (columns_from (floor - pattern.lc) (length (line_at t p.line)))
      (columns_on (floor - pattern.lc) (length (line_at t p.line)))
      (λ c within. match_from_stays i pattern p c h within)

  module _ (i : ItemId) (externals : List (List ℕ)) (p : Place) (h : p.line ≤ length t) where
    abbrev s : Search
    s = record { rules = for_ends r; text = t; item = i; externals = externals; from = p }

    tried_stays : (pattern : Pattern) (c : ℕ) → c ≤ length (line_at t p.line) →
        Stays t (OfSome (EndsOn t)) (tried_at s pattern c)
    tried_stays pattern c within =
        test_stays t (nat_lt c pattern.lc) (done_stays t (OfSome (EndsOn t)) None tt)
        (then_stays t
        (attempted_stays i externals pattern (place_at p.line (c - pattern.lc))
        (place_in p.line (c - pattern.lc) h (omega (arith, within))))
        (λ m e. end_looks m e))

    end_at_stays : (c : ℕ) (pattern : Pattern) → c ≤ length (line_at t p.line) →
        Stays t (OfSome Any) (end_at s c pattern)
    end_at_stays c pattern within =
        then_stays t (tried_stays pattern c within)
        (λ m e. done_stays t (OfSome Any) (option_map (end_made s pattern) m)
        (some_any (option_map (end_made s pattern) m)))

    skip_stays : (o : Option Pattern) (c : ℕ) → c ≤ length (line_at t p.line) →
        Stays t Any (skip_at s o c)
    skip_stays None c within = done_stays t Any NoSkip tt
    skip_stays (Some pattern) c within =
        then_stays t (tried_stays pattern c within)
        (λ o e. choice_stays t {P = EndsOn t} o e (done_stays t Any NoSkip tt)
        (λ m k. done_stays t Any (skip_to s c (offset_place t m pattern Me)) tt))

    from_stays : (kind : ItemKind) (cs : List ℕ) (on : ℕ) →
        AllByRecursion (λ c. c ≤ length (line_at t p.line)) cs → Stays t Any (end_from s kind cs on)
    from_stays kind [] on all = done_stays t Any None tt
    from_stays kind (c ∷ cs) on all =
        test_stays t (nat_lt c on) (from_stays kind cs on all.1)
        (then_stays t (skip_stays (skip_of kind) c all.0)
        (λ skip _. by_skip (λ next. from_stays kind cs next all.1) skip))
      where
        by_skip : ((next : ℕ) → Stays t Any (end_from s kind cs next)) → (skip : Skip) →
            Stays t Any (elim skip as (λ _. Painted Cause (Option RegionEnd)) [
              | NoSkip ↦ first_found (end_at s c) (reverse (ends_of kind))
                  >>= (λ found. elim found as (λ _. Painted Cause (Option RegionEnd))
                  [ None ↦ end_from s kind cs (suc c) | Some e ↦ done (Some e) ])
              | SkipTo next ↦ end_from s kind cs next
              | SkipLine ↦ done None
            ])
        by_skip go (SkipTo next) = go next
        by_skip go SkipLine = done_stays t Any None tt
        by_skip go NoSkip =
            then_stays t
            (found_stays t Any Any (end_at s c) (reverse (ends_of kind))
            (all_any (reverse (ends_of kind))) (λ pattern _. end_at_stays c pattern all.0))
            (λ o _. choice_stays t {P = Any} o (some_any o) (go (suc c))
            (λ e _. done_stays t Any (Some e) tt))

    present_stays : (v : Bool) → Stays t Any (end_in_present s v)
    present_stays false = done_stays t Any None tt
    present_stays true =
        from_stays (item_of r.items i).kind (columns_from p.col (length (line_at t p.line))) p.col
        (columns_on p.col (length (line_at t p.line)))

    -- a search for an end
    pub search_stays : Stays t Any (end_in_line s)
    search_stays =
        then_stays t (looks_stay t p.line h) (λ _ _. present_stays (nat_lt p.line (length t)))

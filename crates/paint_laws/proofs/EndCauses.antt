-- Attempts, and searches for an end, are refused for what an attempt costs.
use Rattle.std.proofs.Common.{◌≡◌, inl, inr, ◌<◌, ◌≤◌, ◌-◌, ℕ, suc, arith, Bool, true}
use Rattle.std.proofs.Common.{false, List, [], ◌∷◌, length, refl}
use Rattle.syn_base.specs.Looked.{one_line}
use Rattle.std.specs.Prelude.{pos, Option, Some, None, nat_lt, reverse, Contains}
use Rattle.std.specs.Option.{option_map}
use Rattle.std.specs.List.{AllByRecursion}
use Rattle.std.proofs.lemmas.Bool.Decides.{nat_tests}
use Rattle.syn_base.specs.declared.places.ItemId.{ItemId}
use Rattle.syn_base.specs.declared.places.Place.{Place}
use Rattle.match_rules.specs.Ways.{Text, line_at}
use Rattle.syntax_set.specs.declared.item.ItemKind.{ItemKind}
use Rattle.syntax_set.specs.declared.item.Pattern.{Pattern}
use Rattle.paint_rules.specs.declared.RegionEnd.{RegionEnd}
use Rattle.paint_rules.specs.declared.Which.TheVariants.{Me}
use Rattle.paint_rules.specs.Painted.{Painted, Done, Refused, done, ◌>>=◌, first_found}
use Rattle.paint_rules.specs.Rules.{Rules, Matched, Attempt, Cause, TooCostly, item_of, attempted}
use Rattle.paint_rules.specs.Rules.{no_externals, place_at, within_budget}
use Rattle.paint_rules.specs.Offsets.{offset_place}
use Rattle.paint_rules.specs.ItemMatch.{columns_from, may_start, starts_at, looks_at_end}
use Rattle.paint_rules.specs.ItemMatch.{match_from, item_match}
use Rattle.paint_rules.specs.EndInLine.{Search, for_ends, Skip, NoSkip, SkipTo, SkipLine, skip_of}
use Rattle.paint_rules.specs.EndInLine.{ends_of, tried_at, end_made, end_at, skip_to, skip_at}
use Rattle.paint_rules.specs.EndInLine.{end_from, end_in_present, end_in_line}
use Rattle.paint_laws.specs.Accepted.{cost_of, IsLookedForFrom, IsOfEnd}
use Rattle.paint_laws.proofs.CauseLaws.{ComesTo, Any, then_comes, done_comes, test_comes}
use Rattle.paint_laws.proofs.CauseLaws.{choice_comes, found_comes, looks_comes, tested_comes}
use Rattle.paint_laws.proofs.MemberLaws.{columns_between, reversed_members}

module _ (r : Rules) (t : Text) (P : Cause → Type 0) where
  budget_comes : (i : ItemId) (a : Attempt) → (r.budget < a.cost → P (TooCostly i)) →
      ComesTo P Any (within_budget i r.budget a)
  budget_comes i a h = by_test (nat_lt r.budget a.cost) refl
    where
      by_test : (b : Bool) → nat_lt r.budget a.cost ≡ b → ComesTo P Any
          (elim b as (λ _. Painted Cause (Option Matched)) [
            | true ↦ Refused (TooCostly i) (Some a.looked)
            | false ↦ Done a.found (Some a.looked)
          ])
      by_test true e = record { holds = h (grind (arith, nat_tests)) }
      by_test false e = record { holds = tt }

  attempted_comes : (i : ItemId) (externals : List (List ℕ)) (pattern : Pattern) (p : Place) →
      (r.budget < cost_of r t i pattern externals p → P (TooCostly i)) →
      ComesTo P Any (attempted r t i externals pattern p)
  attempted_comes i externals pattern p h =
      budget_comes i (r.attempt t pattern.tree (item_of r.items i).ignore externals p) h

  end_looks : (o : Option Matched) → ComesTo P Any (looks_at_end o)
  end_looks None = done_comes P Any None tt
  end_looks (Some m) = record { holds = tt }

  -- the match of an item at a place
  module _ (i : ItemId) (pattern : Pattern) (p : Place) (floor : ℕ)
      (costly : (place : Place) → IsLookedForFrom t p.line floor pattern place →
      may_start t pattern p place ≡ true →
      r.budget < cost_of r t i pattern no_externals place → P (TooCostly i)) where
    from_comes : (c : ℕ) → (floor - pattern.lc ≤ c) × (c ≤ length (line_at t p.line)) →
        ComesTo P Any (match_from r t i pattern p c)
    from_comes c on =
        tested_comes P (may_start t pattern p (place_at p.line c))
        (λ here. then_comes P Any Any
        (attempted_comes i no_externals pattern (place_at p.line c)
        (costly (place_at p.line c)
        (record { in_line = refl; from = omega (arith, on.0); to = on.1 }) here))
        (λ m _ _. test_comes P (starts_at t pattern p m) (end_looks m)
        (done_comes P Any None tt)))
        (done_comes P Any None tt)

    pub item_match_comes : ComesTo P Any (item_match r t i pattern p floor)
    item_match_comes =
        found_comes P
        (λ c. (floor - pattern.lc ≤ c) × (c ≤ length (line_at t p.line)))
        (match_from r t i pattern p)
        (columns_from (floor - pattern.lc) (length (line_at t p.line)))
        (columns_between (floor - pattern.lc) (length (line_at t p.line))) from_comes

  -- a search for a region's end
  module _ (i : ItemId) (externals : List (List ℕ)) (p : Place)
      (costly : (pattern : Pattern) (place : Place) → IsOfEnd (item_of r.items i).kind pattern →
      IsLookedForFrom t p.line p.col pattern place →
      r.budget < cost_of r t i pattern externals place → P (TooCostly i)) where
    abbrev s : Search
    s = record { rules = for_ends r; text = t; item = i; externals = externals; from = p }

    abbrev kind : ItemKind
    kind = (item_of r.items i).kind

    abbrev IsColumn : ℕ → Type 0
    IsColumn c = (p.col ≤ c) × (c ≤ length (line_at t p.line))

    tried_comes : (pattern : Pattern) → IsOfEnd kind pattern → (c : ℕ) → IsColumn c →
        ComesTo P Any (tried_at s pattern c)
    tried_comes pattern of c on =
        test_comes P (nat_lt c pattern.lc) (done_comes P Any None tt)
        (then_comes P Any Any
        (attempted_comes i externals pattern (place_at p.line (c - pattern.lc))
        (costly pattern (place_at p.line (c - pattern.lc)) of
        (record { in_line = refl; from = omega (arith, on.0); to = omega (arith, on.1) })))
        (λ m _ _. end_looks m))

    end_at_comes : (c : ℕ) → IsColumn c → (pattern : Pattern) → Contains (ends_of kind) pattern →
        ComesTo P Any (end_at s c pattern)
    end_at_comes c on pattern of =
        then_comes P Any Any (tried_comes pattern (inr of) c on)
        (λ m _ _. done_comes P Any (option_map (end_made s pattern) m) tt)

    skip_comes : (o : Option Pattern) → skip_of kind ≡ o → (c : ℕ) → IsColumn c →
        ComesTo P Any (skip_at s o c)
    skip_comes None e c on = done_comes P Any NoSkip tt
    skip_comes (Some pattern) e c on =
        then_comes P Any Any (tried_comes pattern (inl e) c on)
        (λ o _ _. choice_comes P o (done_comes P Any NoSkip tt)
        (λ m _. done_comes P Any (skip_to s c (offset_place t m pattern Me)) tt))

    ends_comes : (cs : List ℕ) (on : ℕ) → AllByRecursion IsColumn cs →
        ComesTo P Any (end_from s kind cs on)
    ends_comes [] on all = done_comes P Any None tt
    ends_comes (c ∷ cs) on all =
        test_comes P (nat_lt c on) (ends_comes cs on all.1)
        (then_comes P Any Any (skip_comes (skip_of kind) refl c all.0)
        (λ skip _ _. by_skip (λ next. ends_comes cs next all.1) skip))
      where
        by_skip : ((next : ℕ) → ComesTo P Any (end_from s kind cs next)) → (skip : Skip) →
            ComesTo P Any (elim skip as (λ _. Painted Cause (Option RegionEnd)) [
              | NoSkip ↦ first_found (end_at s c) (reverse (ends_of kind))
                  >>= (λ found. elim found as (λ _. Painted Cause (Option RegionEnd))
                  [ None ↦ end_from s kind cs (suc c) | Some e ↦ done (Some e) ])
              | SkipTo next ↦ end_from s kind cs next
              | SkipLine ↦ done None
            ])
        by_skip go (SkipTo next) = go next
        by_skip go SkipLine = done_comes P Any None tt
        by_skip go NoSkip =
            then_comes P Any Any
            (found_comes P (Contains (ends_of kind)) (end_at s c) (reverse (ends_of kind))
            (reversed_members (ends_of kind)) (end_at_comes c all.0))
            (λ o _ _. choice_comes P o (go (suc c)) (λ e _. done_comes P Any (Some e) tt))

    present_comes : (v : Bool) → ComesTo P Any (end_in_present s v)
    present_comes false = done_comes P Any None tt
    present_comes true =
        ends_comes (columns_from p.col (length (line_at t p.line))) p.col
        (columns_between p.col (length (line_at t p.line)))

    pub search_comes : ComesTo P Any (end_in_line s)
    search_comes =
        then_comes P Any Any (looks_comes P (one_line (pos p.line)))
        (λ _ _ _. present_comes (nat_lt p.line (length t)))

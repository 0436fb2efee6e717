-- The steps of a search: what they stand on, and how their answers are read.
use Rattle.std.specs.Prelude.{◌≡◌, ◌<◌, ◌≤◌, ℕ, suc, true, false, Option, Some, None, length, pos}
use Rattle.syn_base.specs.declared.places.ItemId.{ItemId}
use Rattle.syn_base.specs.declared.places.Place.{Place}
use Rattle.syn_base.specs.declared.looked.Looked.{Looked}
use Rattle.syn_base.specs.Looked.{hull_of, one_line}
use Rattle.match_rules.specs.Ways.{Text, is_after}
use Rattle.pattern_match.specs.declared.answer.Attempt.{Attempt}
use Rattle.pattern_match.specs.declared.answer.Attempt.TheVariants as tried
use Rattle.syntax_set.specs.Soundness.{AreSound}
use Rattle.paint_rules.specs.Painted.{Painted, Done, refusal_of}
use Rattle.paint_rules.specs.Rules as rule
use Rattle.paint_rules.specs.Rules.{Cause, Matched, item_of, place_at}
use Rattle.paint_rules.specs.Close.{is_region}
use Rattle.paint_rules.specs.EndInLine as rule_of
use Rattle.paint_rules.specs.EndInLine.{Search, Skip}
use Rattle.region_ends.specs.declared.searching.Searching.{Searching}
use Rattle.region_ends.specs.declared.skips.SkipAnswer.{SkipAnswer}
use Rattle.region_ends.specs.declared.skips.SkipAnswer.TheVariants as skips
use Rattle.region_ends.specs.Searches.{search_of}

abbrev pub search_in : Searching → Text → Search
search_in a text = search_of a.items.now a.matcher.sets.now a.matcher.budget text a.region a.externals.now a.from

-- the items and the programs are sound together, and the region and the line are there
pub record MaySearch (a : Searching) (text : Text) : Type 0 where
  pub sound : AreSound a.items.now a.matcher.programs.now
  pub item : a.region.0 < length a.items.now
  pub region : is_region (item_of a.items.now a.region).kind ≡ true
  pub present : a.from.line < length text
  pub budget : 1 ≤ a.matcher.budget

-- a match ends before this line
abbrev pub EndsBefore : ℕ → Attempt → Type 0
EndsBefore count (tried.Found m k) = (m.to).line < count
EndsBefore count _ = Unit {0}

-- an attempt, after some looks, with a look at the line where it ends
abbrev pub seen : Looked → Attempt → Attempt
seen looked (tried.Found m k) = tried.Found m (hull_of (hull_of looked k) (one_line (pos (m.to).line)))
seen looked (tried.Absent k) = tried.Absent (hull_of looked k)
seen looked tried.TooCostly = tried.TooCostly

abbrev pub IsTried : Attempt → ItemId → Painted Cause (Option Matched) → Type 0
IsTried (tried.Found m k) i p = p ≡ Done (Some m) (Some k)
IsTried (tried.Absent k) i p = p ≡ Done None (Some k)
IsTried tried.TooCostly i p = refusal_of p ≡ Some (rule.TooCostly i)

abbrev pub IsSkip : SkipAnswer → ItemId → Painted Cause Skip → Type 0
IsSkip (skips.NoSkip k) i p = p ≡ Done rule_of.NoSkip (Some k)
IsSkip (skips.SkipTo c k) i p = p ≡ Done (rule_of.SkipTo c) (Some k)
IsSkip (skips.SkipLine k) i p = p ≡ Done rule_of.SkipLine (Some k)
IsSkip skips.TooCostly i p = refusal_of p ≡ Some (rule.TooCostly i)

-- what a skip says, by the line's length
abbrev pub skip_from : ℕ → ℕ → ℕ → Place → Skip
skip_from line c last me = elim (is_after me (place_at line c)) [
  | false ↦ rule_of.SkipTo (suc c)
  | true ↦ elim (is_after (place_at line last) me) [ true ↦ rule_of.SkipTo me.col | false ↦ rule_of.SkipLine ]
]

abbrev pub SkipIs : SkipAnswer → Skip → Looked → Type 0
SkipIs (skips.NoSkip k) s looked = (s ≡ rule_of.NoSkip) × (k ≡ looked)
SkipIs (skips.SkipTo c k) s looked = (s ≡ rule_of.SkipTo c) × (k ≡ looked)
SkipIs (skips.SkipLine k) s looked = (s ≡ rule_of.SkipLine) × (k ≡ looked)
SkipIs skips.TooCostly s looked = ⊥

-- a skip goes on behind its column, and not behind the one after the line's end
abbrev pub GoesFurther : SkipAnswer → ℕ → ℕ → Type 0
GoesFurther (skips.SkipTo next k) c last = (c < next) × (next ≤ suc last)
GoesFurther _ c last = Unit {0}

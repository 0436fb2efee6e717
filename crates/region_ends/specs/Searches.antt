-- The search for the end of a region: what it searches, and how its answer is read.
use Rattle.std.specs.Prelude.{◌≡◌, ℕ, List, [], Option, Some, None}
use Rattle.char_class.specs.declared.sets.Sets.{Sets}
use Rattle.syn_base.specs.declared.places.ItemId.{ItemId}
use Rattle.syn_base.specs.declared.places.Place.{Place}
use Rattle.match_rules.specs.Ways.{Text}
use Rattle.syntax_set.specs.declared.added_item.AddedItem.{AddedItem}
use Rattle.paint_rules.specs.declared.RegionEnd.{RegionEnd}
use Rattle.paint_rules.specs.Painted.{Painted, Done, refusal_of}
use Rattle.paint_rules.specs.Rules as rule
use Rattle.paint_rules.specs.Rules.{Cause}
use Rattle.paint_rules.specs.EndInLine.{Search}
use Rattle.paint_rules.specs.Syntax.{rules_of}
use Rattle.region_ends.specs.declared.searching.EndAnswer.{EndAnswer}
use Rattle.region_ends.specs.declared.searching.EndAnswer.TheVariants.{Ends, NotHere, TooCostly}

-- the search of a region from a place; it asks for neither lists nor keywords
abbrev pub search_of : List AddedItem → Sets → ℕ → Text → ItemId → List (List ℕ) → Place → Search
search_of items sets budget text region externals from = record {
  rules = rules_of items [] [] sets budget;
  text = text;
  item = region;
  externals = externals;
  from = from;
}

-- the end or that there is none, with all lines that were looked at, or the refusal
abbrev pub IsEnd : EndAnswer → ItemId → Painted Cause (Option RegionEnd) → Type 0
IsEnd (Ends e k) i p = p ≡ Done (Some e) (Some k)
IsEnd (NotHere k) i p = p ≡ Done None (Some k)
IsEnd TooCostly i p = refusal_of p ≡ Some (rule.TooCostly i)

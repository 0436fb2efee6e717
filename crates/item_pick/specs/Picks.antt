-- What is picked, as the rules see it.
use Rattle.std.specs.Prelude.{◌≡◌, List, Some}
use Rattle.syntax_set.specs.declared.added_item.AddedItem.{AddedItem}
use Rattle.paint_rules.specs.Painted.{Painted, Done, refusal_of}
use Rattle.paint_rules.specs.Rules.{Cause, TooCostly as IsTooCostly}
use Rattle.paint_rules.specs.Pick as rule
use Rattle.item_pick.specs.declared.starting.Picked.{Picked}
use Rattle.item_pick.specs.declared.starting.Picked.TheVariants.{Start, SkipOn, Nothing, TooCostly}
use Rattle.item_pick.specs.Starts.{IsStarting}

-- the answer by the rule, with all lines that it looked at
abbrev pub IsPicked : List AddedItem → Picked → Painted Cause rule.Picked → Type 0
IsPicked items (Start starting k) p =
    (t : rule.Starting) × IsStarting items starting t × (p ≡ Done (rule.Start t) (Some k))
IsPicked items (SkipOn k) p = p ≡ Done rule.SkipOn (Some k)
IsPicked items (Nothing k) p = p ≡ Done rule.Nothing (Some k)
IsPicked items (TooCostly i) p = refusal_of p ≡ Some (IsTooCostly i)

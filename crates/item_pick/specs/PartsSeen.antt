-- The parts of a syntax as the rules see them.
use Rattle.std.specs.Prelude.{ℕ}
use Rattle.paint_rules.specs.Rules.{Rules}
use Rattle.paint_rules.specs.Syntax.{rules_of}
use Rattle.item_pick.specs.declared.asked.Asked.{Asked}
use Rattle.item_pick.specs.declared.parts.Parts.{Parts}

abbrev pub rules_in : Parts → ℕ → Rules
rules_in parts budget =
    rules_of parts.items.now (parts.clusters.now).lists parts.keywords.now parts.sets.now budget

-- as they are asked within a budget
abbrev pub rules_by : Asked → Rules
rules_by a = rules_in a.parts.now a.budget

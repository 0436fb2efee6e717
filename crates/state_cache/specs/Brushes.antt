-- The rules by which lines are painted.
use Rattle.std.specs.Prelude.{ℕ, length}
use Rattle.paint_rules.specs.Rules.{Rules}
use Rattle.state_cache.specs.declared.brush.Brush.{Brush}
use Rattle.state_cache.specs.Spans.{syntax_rules}

abbrev pub rules_by : Brush → Rules
rules_by brush = syntax_rules brush.syntax.now brush.budget

-- how many items there are
abbrev pub items_by : Brush → ℕ
items_by brush = length brush.syntax.now.items

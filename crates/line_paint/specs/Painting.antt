-- A line of a text, as the rules see it.
use Rattle.std.specs.Prelude.{◌<◌, ℕ, length}
use Rattle.match_rules.specs.Ways.{Text}
use Rattle.paint_rules.specs.Rules.{Here}
use Rattle.item_pick.specs.declared.asked.Asked.{Asked}
use Rattle.item_pick.specs.declared.parts.Parts.{Parts}
use Rattle.item_pick.specs.PartsSeen.{rules_in}
use Rattle.item_pick.specs.Valid.{IsSound}

abbrev pub here_in : Parts → ℕ → Text → ℕ → Here
here_in parts budget text line = record { rules = rules_in parts budget; text = text; line = line }

-- as the parts are asked within a budget
abbrev pub here_by : Asked → Text → ℕ → Here
here_by asked text line = here_in asked.parts.now asked.budget text line

-- the line is there, and the parts may be asked
pub record MayBeAsked (asked : Asked) (text : Text) (line : ℕ) : Type 0 where
  pub sound : IsSound asked
  pub present : line < length text

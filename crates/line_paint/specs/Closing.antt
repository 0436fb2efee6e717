-- Closing, as the code speaks of it.
use Rattle.std.specs.Prelude.{ℕ, Bool, true, false, List, [], ◌∷◌, Result}
use Rattle.syn_base.specs.declared.looked.Looked.{Looked}
use Rattle.paint_rules.specs.Frames.{Frame}
use Rattle.paint_rules.specs.Painted.{Painted}
use Rattle.paint_rules.specs.Rules.{Cause, Here}
use Rattle.paint_rules.specs.declared.Spot.TheVariants.{At}
use Rattle.paint_rules.specs.Close as rule
use Rattle.line_paint.specs.declared.answers.Stop.{Stop}
use Rattle.line_paint.specs.declared.closing.Closing.{Closing}
use Rattle.line_paint.specs.declared.closing.Closing.TheVariants as code
use Rattle.line_paint.specs.declared.closing.Anew.{Anew}
use Rattle.line_paint.specs.Answers.{ComesOf}
use Rattle.line_paint.specs.Standing.{frames_or, items_of}

abbrev pub closing : Closing → rule.Closing
closing code.Stays = rule.Stays
closing code.BecomesArea = rule.BecomesArea
closing code.Leaves = rule.Leaves
closing code.LeavesArea = rule.LeavesArea

-- what becomes of the top frame at a column; it stays where closing is over for the line
abbrev pub closing_on : Here → ℕ → Bool → List Frame → rule.Closing
closing_on h c is_over [] = rule.Stays
closing_on h c is_over (top ∷ below) =
    elim is_over [ true ↦ rule.Stays | false ↦ rule.closing_of h.rules (At 0 c) top below ]

abbrev pub anew_or : List Frame → Anew → rule.Anew
anew_or stays a = record { frames = frames_or stays a.frames; over = a.over }

-- a call answers what frames become, and whether the top has searched
abbrev pub AnewComes : List Frame → Result Anew Stop → Looked → Looked → Painted Cause rule.Anew →
    Type 0
AnewComes frames = ComesOf (anew_or frames) (λ (a : rule.Anew). items_of a.frames) (items_of frames)

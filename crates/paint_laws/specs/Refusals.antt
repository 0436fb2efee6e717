-- What was refused changes nothing: the lines before it are painted as they are without it, and
-- those behind it don't matter.
use Rattle.std.specs.Prelude.{◌≡◌, ◌-◌, ℕ, List, ◌++◌, take}
use Rattle.match_rules.specs.Ways.{Text}
use Rattle.paint_rules.specs.Rules.{Rules}
use Rattle.paint_rules.specs.States.{State}
use Rattle.paint_rules.specs.Line.{Note, Whole, Fails, Refusal, painting_from}

-- where some lines from a line on are refused at a line of theirs
pub record ChangesNothing (r : Rules) (t : Text) (l : ℕ) (lines : List (List ℕ)) (s : State)
    (refused : ℕ) (refusal : Refusal) : Type 0 where
  -- the lines before that line are painted without it
  pub notes : List Note
  pub before : painting_from r t l (take (refused - l) lines) s ≡ Whole notes
  -- with more lines behind them the refusal is the same
  pub behind : (more : List (List ℕ)) →
      painting_from r t l (lines ++ more) s ≡ Fails refused refusal

-- the law
abbrev pub RefusalsChangeNothing : Type 0
RefusalsChangeNothing =
    (r : Rules) (t : Text) (l : ℕ) (lines : List (List ℕ)) (s : State) (refused : ℕ)
    (refusal : Refusal) → painting_from r t l lines s ≡ Fails refused refusal →
    ChangesNothing r t l lines s refused refusal

-- Columns over which the painter may jump.
use Rattle.std.specs.Prelude.{◌≡◌, ℕ, [], None, Some}
use Rattle.syn_base.specs.declared.looked.Looked.{Looked}
use Rattle.paint_rules.specs.Painted.{Done, looked_first, done}
use Rattle.paint_rules.specs.Rules.{Here}
use Rattle.paint_rules.specs.States.{Standing}
use Rattle.paint_rules.specs.Close.{close_once}
use Rattle.paint_rules.specs.Pick.{Nothing, picked}

-- at a column nothing closes, and nothing waits or starts, and no line is looked at but those that
-- were before
pub record IsQuiet (h : Here) (looked : Looked) (c : ℕ) (s : Standing) : Type 0 where
  pub none_tried : s.tried ≡ []
  pub none_waits : s.waiting ≡ None
  pub stays : close_once h c s s.stack ≡ done None
  pub nothing : looked_first (Some looked) (picked h c s) ≡ Done Nothing (Some looked)

-- What a rule of painting came to, whatever it looked at.
use Rattle.std.specs.Prelude.{◌≡◌, Option}
use Rattle.syn_base.specs.declared.looked.Looked.{Looked}
use Rattle.paint_rules.specs.Painted.{Painted, Done, Refused}

-- it came to this value
pub record Gives {E A : Type 0} (p : Painted E A) (a : A) : Type 0 where
  pub looked : Option Looked
  pub is : p ≡ Done a looked

-- it was refused for this cause
pub record Refuses {E A : Type 0} (p : Painted E A) (cause : E) : Type 0 where
  pub looked : Option Looked
  pub is : p ≡ Refused cause looked

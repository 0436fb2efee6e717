-- What a step tells: what the rule says, after the lines looked at before.
use Rattle.std.specs.Prelude.{◌≡◌, ◌<◌, ℕ, Option, Some, None, Result, Ok, Err}
use Rattle.syn_base.specs.declared.looked.Looked.{Looked}
use Rattle.pattern_match.specs.declared.answer.Match.{Match}
use Rattle.paint_rules.specs.Painted.{Painted, Done, looked_first, refusal_of}
use Rattle.paint_rules.specs.Rules.{Cause, TooCostly as IsTooCostly}
use Rattle.item_pick.specs.declared.stop.Stop.{Stop}
use Rattle.item_pick.specs.declared.stop.Stop.TheVariants.{TooCostly, Memory}

abbrev pub IsStop : {A : Type 0} → Stop → Painted Cause A → Type 0
IsStop (TooCostly i) p = refusal_of p ≡ Some (IsTooCostly i)
IsStop Memory p = Unit {0}

abbrev pub IsTold : {A : Type 0} → Result A Stop → Looked → Painted Cause A → Type 0
IsTold (Ok a) k p = p ≡ Done a (Some k)
IsTold (Err stop) k p = IsStop stop p

-- after some lines were looked at
abbrev pub IsToldAfter : {A : Type 0} → Looked → Result A Stop → Looked → Painted Cause A → Type 0
IsToldAfter before r after p = IsTold r after (looked_first (Some before) p)

-- a match ends before this line
abbrev pub EndsBefore : ℕ → Option Match → Type 0
EndsBefore count None = Unit {0}
EndsBefore count (Some m) = (m.to).line < count

-- the same of a value that the rules see by `seen`
abbrev pub IsToldAs : {A B : Type 0} → (A → B) → Looked → Result A Stop → Looked → Painted Cause B → Type 0
IsToldAs seen before (Ok a) after p = looked_first (Some before) p ≡ Done (seen a) (Some after)
IsToldAs seen before (Err stop) after p = IsStop stop (looked_first (Some before) p)

-- How the answers of the painter's calls are read.
use Rattle.std.specs.Prelude.{◌≡◌, Some, None, Result, Ok, Err}
use Rattle.syn_base.specs.declared.looked.Looked.{Looked}
use Rattle.paint_rules.specs.Painted.{Painted, Done, looked_first, refusal_of}
use Rattle.paint_rules.specs.Rules.{Cause, TooCostly, TooDeep}
use Rattle.line_paint.specs.declared.answers.Stop.{Stop}
use Rattle.line_paint.specs.declared.answers.Stop.TheVariants as stop

abbrev pub Stops : {A : Type 0} → Stop → Painted Cause A → Type 0
Stops (stop.TooCostly i) p = refusal_of p ≡ Some (TooCostly i)
Stops stop.TooDeep p = refusal_of p ≡ Some TooDeep
Stops stop.Memory p = Unit {0}

-- a call answers as a rule says: from some looks on it leads to others, and to a value, which is
-- seen by `view`
abbrev pub Comes : {A B : Type 0} → (A → B) → Result A Stop → Looked → Looked → Painted Cause B →
    Type 0
Comes view (Ok a) j k p = looked_first (Some j) p ≡ Done (view a) (Some k)
Comes view (Err e) j k p = Stops e p

-- the same, where the value is of certain items
abbrev pub ComesOf : {A B C : Type 0} → (A → B) → (B → C) → C → Result A Stop → Looked → Looked →
    Painted Cause B → Type 0
ComesOf view items kept (Ok a) j k p =
    (looked_first (Some j) p ≡ Done (view a) (Some k)) × (items (view a) ≡ kept)
ComesOf view items kept (Err e) j k p = Stops e p

-- the same of a rule that looks at nothing
abbrev pub Gives : {A B : Type 0} → (A → B) → Result A Stop → Painted Cause B → Type 0
Gives view (Ok a) p = p ≡ Done (view a) None
Gives view (Err e) p = Stops e p

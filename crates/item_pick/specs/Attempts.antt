-- What attempts answer.
use Rattle.std.specs.Prelude.{◌≡◌, ◌<◌, ◌≤◌, ℕ, None, pos}
use Rattle.syn_base.specs.declared.looked.Looked.{Looked}
use Rattle.syn_base.specs.Looked.{one_line}
use Rattle.pattern_match.specs.declared.answer.Attempt.{Attempt}
use Rattle.pattern_match.specs.declared.answer.Attempt.TheVariants.{Found}
use Rattle.paint_rules.specs.Rules.{Attempt as Tried}

-- an attempt that finds nothing, and looks at these lines
abbrev pub IsFutileBy : Tried → ℕ → Looked → Type 0
IsFutileBy a cost lines = (a.found ≡ None) × (a.cost ≤ cost) × (a.looked ≡ lines)

-- at its line alone
abbrev pub IsFutile : Tried → ℕ → ℕ → Type 0
IsFutile a cost l = IsFutileBy a cost (one_line (pos l))

-- a match ends before this line
abbrev pub EndsBelow : Attempt → ℕ → Type 0
EndsBelow (Found m k) count = (m.to).line < count
EndsBelow _ count = Unit {0}

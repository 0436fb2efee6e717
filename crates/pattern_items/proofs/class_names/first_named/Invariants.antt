use Rattle.std.proofs.Common.{◌≡◌, drop}
use Rattle.std.specs.Prelude.{nat_eq, find}
use Rattle.std.specs.List.{starts_with}
use Rattle.pattern_items.specs.ClassNames.{word}
use Rattle.pattern_items.proofs.class_names.first_named.Given as goal

-- the names before are none of the text's
abbrev pub invariant-loop-name : goal.invariant-loop-name
invariant-loop-name l = find (λ name. starts_with nat_eq l.text (word name)) (drop l.name-index l.names) ≡ find (λ name. starts_with nat_eq l.text (word name)) l.names

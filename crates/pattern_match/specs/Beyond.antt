-- What is kept of a character that refuses what follows.
use Rattle.std.specs.Prelude.{Option, Some, None, false}
use Rattle.pattern_match.specs.Glance.{marks_behind}
use Rattle.pattern_match.specs.Vain.{IsVainBy}
use Rattle.pattern_match.specs.declared.beyond.Refusal.{Refusal}
use Rattle.pattern_match.specs.declared.context.Context.{Context as ContextOf}
use Rattle.pattern_match.specs.declared.sight.Rest.{Rest}
use Rattle.pattern_match.specs.declared.vain.Vain.TheVariants.{Refused}

-- the kept character refuses what follows wherever it is not the first of its line
abbrev pub IsKept : ContextOf → Rest → Option Refusal → Type 0
IsKept context rest None = Unit {0}
IsKept context rest (Some r) = IsVainBy context (λ x. marks_behind x rest) r.c false (Refused r.ticks)

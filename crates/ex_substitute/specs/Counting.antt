-- Whether a command counts alone.
use Rattle.std.specs.Prelude.{Bool, false}
use Rattle.ex_substitute.specs.declared.command.Action.{Action}
use Rattle.ex_substitute.specs.declared.command.Action.TheVariants.{Substitute, Delete}

-- flag `n`; a deletion has none
abbrev pub is_counted : Action → Bool
is_counted (Substitute string all count_only) = count_only
is_counted (Delete others) = false

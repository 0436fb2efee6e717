-- A code for commands, by which proofs tell them apart.
use Rattle.std.specs.Prelude.{Bool, refl}
use Rattle.std.specs.Coded.{Coded, code_by, coded×, coded_bool}
use Rattle.vim_pattern.specs.Tree.{PatternTree}
use Rattle.vim_pattern.specs.ShapeCode.{coded_tree}
use Rattle.ex_substitute.specs.declared.command.Action.{Action}
use Rattle.ex_substitute.specs.contracts.command.Action.{the_row as action_row}
use Rattle.ex_substitute.specs.Commands.{Command}

abbrev pub Nested : Type 0
Nested = PatternTree × (Bool × Action)

abbrev pub command_code : Coded Command
command_code =
    code_by Nested (coded× coded_tree (coded× coded_bool action_row.coded))
    (λ c. (c.tree, (c.ignore, c.action)))
    (λ p. record { tree = p.0; ignore = p.1.0; action = p.1.1 })
    (λ _. refl)

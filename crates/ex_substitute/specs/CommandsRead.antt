-- What the readers of a command's parts answer.
use Rattle.std.specs.Prelude.{◌≡◌, Result, Ok, Err}
use Rattle.ex_substitute.specs.declared.command.Halves.{Halves}
use Rattle.ex_substitute.specs.declared.command.Order.{Order as OrderRead}
use Rattle.ex_substitute.specs.declared.error.ExError.{ExError}
use Rattle.ex_substitute.specs.declared.refusal.Refusal.{Refusal}
use Rattle.ex_substitute.specs.Answers.{FailsAs}
use Rattle.ex_substitute.specs.Commands.{Order, Parts}

abbrev pub seen : Halves → Parts
seen h = record { pattern = h.pattern; is_closed = h.is_closed; rest = h.rest.now }

abbrev pub OrderGives : Result OrderRead Refusal → Result Order ExError → Type 0
OrderGives (Ok o) rules = rules ≡ Ok (o.ignore, o.action)
OrderGives (Err e) rules = FailsAs e rules

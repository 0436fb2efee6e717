use Rattle.ex_substitute.proofs.OrderLaws.{in-order}
use Rattle.ex_substitute.proofs.laws.replacements_are_in_order.Goals as goal

pub returns : goal.returns
returns c = in-order

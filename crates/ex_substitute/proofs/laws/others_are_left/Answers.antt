use Rattle.ex_substitute.proofs.OthersLaws.{left-are-others}
use Rattle.ex_substitute.proofs.laws.others_are_left.Goals as goal

pub returns : goal.returns
returns c = left-are-others

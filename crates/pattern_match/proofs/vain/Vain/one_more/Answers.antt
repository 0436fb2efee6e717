use Rattle.pattern_match.proofs.VainLaws.{one-behind}
use Rattle.pattern_match.proofs.vain.Vain.one_more.Goals as goal

pub returns-in-Some : goal.returns-in-Some
returns-in-Some c = rw c.in-Refused.is (one-behind c.in-Refused.ticks c.in-Some.all c.in-Some.ensures.1)

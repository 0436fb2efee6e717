use Rattle.pattern_match.proofs.VainLaws.{either-refused}
use Rattle.pattern_match.proofs.vain.Vain.or.Goals as goal

pub returns-in-Some : goal.returns-in-Some
returns-in-Some c =
    rw (c.in-Refused-Refused.is-0, c.in-Refused-Refused.is-1)
    (either-refused c.in-Refused-Refused.ticks c.in-Refused-Refused.more c.in-Some.all c.in-Some.ensures.1)

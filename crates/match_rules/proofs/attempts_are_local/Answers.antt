use Rattle.match_rules.proofs.LocalAnswer.{law}
use Rattle.match_rules.proofs.attempts_are_local.Goals as goal

pub returns : goal.returns
returns c tree = law tree

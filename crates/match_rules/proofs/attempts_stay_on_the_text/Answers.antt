use Rattle.match_rules.proofs.OnText.{law}
use Rattle.match_rules.proofs.attempts_stay_on_the_text.Goals as goal

pub returns : goal.returns
returns c tree = law tree

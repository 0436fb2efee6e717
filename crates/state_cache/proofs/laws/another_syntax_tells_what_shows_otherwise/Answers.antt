use Rattle.state_cache.proofs.ShownLaws.{told_lines}
use Rattle.state_cache.proofs.laws.another_syntax_tells_what_shows_otherwise.Goals as goal

pub returns : goal.returns
returns c = told_lines

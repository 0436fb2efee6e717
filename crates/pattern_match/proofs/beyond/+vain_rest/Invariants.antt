use Rattle.pattern_match.proofs.RestLaws.{rests}
use Rattle.pattern_match.proofs.beyond.+vain_rest.Given as goal

abbrev pub decreases-vain_rest : goal.decreases-vain_rest
decreases-vain_rest l = rests l.rest.now

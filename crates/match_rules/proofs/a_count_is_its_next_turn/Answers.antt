use Rattle.match_rules.specs.Visits.{visits}
use Rattle.match_rules.proofs.TurnLaws.{turns-next}
use Rattle.match_rules.proofs.Kept.{visits-kept}
use Rattle.match_rules.proofs.a_count_is_its_next_turn.Goals as goal

pub returns : goal.returns
returns c x part least most lazy w h =
    turns-next x.text (visits x part) lazy (visits-kept x part) least most w h

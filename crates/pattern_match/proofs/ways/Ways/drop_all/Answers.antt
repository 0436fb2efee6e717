use Rattle.pattern_match.proofs.WayLaws.{nothing_to_do}
use Rattle.pattern_match.proofs.ways.Ways.drop_all.Goals as goal

pub returns : goal.returns
returns g c =
    let old = c.self.inside in
    nothing_to_do old.later.items old.notes.items old.pending.items old.here c.args.self.now c.self.view_is

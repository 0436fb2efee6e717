use Rattle.std.proofs.Common.{sym, ap, ◌∙◌}
use Rattle.match_rules.specs.Ways.{way_from}
use Rattle.pattern_match.specs.Ways.{Ways}
use Rattle.pattern_match.proofs.NoteLaws.{nothing_noted}
use Rattle.pattern_match.proofs.ways.Ways.has_no_notes.Goals as goal

pub returns : goal.returns
returns g c =
    λ none.
    let old = c.self.inside in
    sym (ap (λ (v : Ways g.row.T.Denot). v.here.way) c.self.view_is)
    ∙ nothing_noted old.notes.items old.here.noted old.here.at none
    ∙ ap (λ (v : Ways g.row.T.Denot). way_from v.here.way.at) c.self.view_is

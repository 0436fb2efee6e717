use Rattle.std.proofs.Common.{length, sym, ap, ◌∙◌}
use Rattle.std.specs.Prelude.{reverse}
use Rattle.pattern_match.specs.Ways.{Ways, ways_counted}
use Rattle.pattern_match.proofs.PendingLaws.{length-threads}
use Rattle.pattern_match.proofs.ways.Ways.pending.Goals as goal

pub returns : goal.returns
returns g c =
    let old = c.self.inside in
    c.ways_counted.ensures
    ∙ ap (λ ps. ways_counted (reverse ps)) c.deref.ensures.value
    ∙ sym (length-threads (reverse old.later.items) (reverse old.notes.items) (reverse old.pending.items))
    ∙ ap (λ (v : Ways g.row.T.Denot). length v.pending) c.self.view_is

use Rattle.std.proofs.Common.{ap, ◌∙◌}
use Rattle.std.specs.Prelude.{reverse}
use Rattle.pattern_match.specs.Ways.{Thread, Ways, thread_of, place_of}
use Rattle.pattern_match.proofs.WayLaws.{gone_on}
use Rattle.pattern_match.proofs.ways.Ways.go_on_with_pending.Goals as goal

pub invariant_of-self-2 : goal.invariant_of-self-2
invariant_of-self-2 g c =
    let old = c.self.inside in
    (gone_on old.later.items c.truncate.new.self.items old.notes.items old.pending.items c.take_next.new.pending.items c.in-Some.ensures.0 c.in-Some.next old.here c.last_of-there.result c.args.self.now c.place_of.result
    c.self.invariant c.self.view_is c.in-Some.ensures.1 c.in-Some.ensures.2 c.truncate.ensures.items c.last_of-there.ensures).0

pub returns-clause-next : goal.returns-clause-next
returns-clause-next g c =
    let old = c.self.inside in
    let next = c.in-Some.next in
    let w = c.args.self.now in
    let there : Thread g.row.T.Denot = thread_of (reverse old.later.items) (reverse old.notes.items) c.last_of-there.result in
    let done = gone_on old.later.items c.truncate.new.self.items old.notes.items old.pending.items c.take_next.new.pending.items c.in-Some.ensures.0 next old.here c.last_of-there.result w c.place_of.result
    c.self.invariant c.self.view_is c.in-Some.ensures.1 c.in-Some.ensures.2 c.truncate.ensures.items c.last_of-there.ensures in
    let at = c.place_of.ensures ∙ ap (λ (v : Ways g.row.T.Denot). place_of c.args.stay v.here.way.at c.last_of-there.result.at) c.self.view_is in
    λ up. (
      there,
      done.1,
      done.2 ∙ ap {B = Thread g.row.T.Denot} (λ p. record { todo = there.todo; way = record w.here.way { at = p } }) at,
    )

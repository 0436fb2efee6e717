use Rattle.pattern_match.proofs.WayLaws.{taken_up}
use Rattle.pattern_match.proofs.ways.Ways.take_up.Goals as goal

pub invariant_of-self-2 : goal.invariant_of-self-2
invariant_of-self-2 g c =
    let old = c.self.inside in
    (taken_up old.later.items c.truncate.new.self.items old.notes.items c.truncate-2.new.self.items old.pending.items c.take_next.new.pending.items c.in-Some.ensures.0 c.in-Some.next old.here c.last_of-self-inside.result c.args.self.now
    c.self.invariant c.self.view_is c.in-Some.ensures.1 c.in-Some.ensures.2 c.truncate.ensures.items c.truncate-2.ensures.items c.last_of-self-inside.ensures).0

pub returns-clause-next : goal.returns-clause-next
returns-clause-next g c =
    let old = c.self.inside in
    λ up. (taken_up old.later.items c.truncate.new.self.items old.notes.items c.truncate-2.new.self.items old.pending.items c.take_next.new.pending.items c.in-Some.ensures.0 c.in-Some.next old.here c.last_of-self-inside.result c.args.self.now
    c.self.invariant c.self.view_is c.in-Some.ensures.1 c.in-Some.ensures.2 c.truncate.ensures.items c.truncate-2.ensures.items c.last_of-self-inside.ensures).1

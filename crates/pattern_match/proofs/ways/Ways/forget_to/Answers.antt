use Rattle.pattern_match.proofs.WayLaws.{forgotten}
use Rattle.pattern_match.proofs.ways.Ways.forget_to.Goals as goal

pub invariant_of-self : goal.invariant_of-self
invariant_of-self g c =
    let old = c.self.inside in
    (forgotten old.later.items old.notes.items old.pending.items c.forget_to.new.pending.items old.here c.args.self.now c.args.count
    c.self.invariant c.self.view_is c.requires c.forget_to.ensures).0

pub returns : goal.returns
returns g c =
    let old = c.self.inside in
    (forgotten old.later.items old.notes.items old.pending.items c.forget_to.new.pending.items old.here c.args.self.now c.args.count
    c.self.invariant c.self.view_is c.requires c.forget_to.ensures).1

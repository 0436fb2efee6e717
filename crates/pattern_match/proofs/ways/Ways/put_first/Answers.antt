use Rattle.std.proofs.Common.{rules, arith, ◌≡◌, length}
use Rattle.pattern_match.proofs.WayLaws.{one_more_to_do}
use Rattle.pattern_match.proofs.ways.Ways.put_first.Goals as goal

pub invariant_of-self-2 : goal.invariant_of-self-2
invariant_of-self-2 g c =
    let old = c.self.inside in
    let number : c.len-self-inside.result ≡ length c.push.new.self.items = first_of (search rules, omega arith) in
    (one_more_to_do old.later.items c.push.new.self.items old.notes.items old.pending.items old.here c.args.self.now c.args.item c.len-self-inside.result
    c.self.invariant c.self.view_is c.in_ok-push.ensures.items number).0

pub returns : goal.returns
returns g c =
    let old = c.self.inside in
    let number : c.len-self-inside.result ≡ length c.push.new.self.items = first_of (search rules, omega arith) in
    (one_more_to_do old.later.items c.push.new.self.items old.notes.items old.pending.items old.here c.args.self.now c.args.item c.len-self-inside.result
    c.self.invariant c.self.view_is c.in_ok-push.ensures.items number).1

use Rattle.std.proofs.Common.{◌≡◌, ◌+◌, length, ap, ◌∙◌, rules, arith}
use Rattle.std.specs.Prelude.{reverse}
use Rattle.pattern_match.specs.Ways.{IsLast, with_last}
use Rattle.pattern_match.proofs.WayLaws.{one_more_note}
use Rattle.pattern_match.proofs.ways.Ways.note.Goals as goal

pub invariant_of-self-2 : goal.invariant_of-self-2
invariant_of-self-2 g c =
    let old = c.self.inside in
    let latest : IsLast (reverse old.notes.items) old.here.noted c.last_from-last.result = rw c.deref.ensures.value at c.last_from-last.ensures in
    let many : c.len-number.result ≡ length old.notes.items = first_of (search rules, omega arith) in
    let own = c.with_last.ensures ∙ ap (λ n. with_last c.last_from-last.result c.args.note (n + 1)) many in
    let number : c.len-self-inside.result ≡ length c.push.new.self.items = first_of (search rules, omega arith) in
    (one_more_note old.later.items old.notes.items c.push.new.self.items old.pending.items old.here c.args.self.now c.args.note c.last_from-last.result c.with_last.result c.len-self-inside.result
    c.self.invariant c.self.view_is c.requires latest own c.in_ok-push.ensures.items number).0

pub returns : goal.returns
returns g c =
    let old = c.self.inside in
    let latest : IsLast (reverse old.notes.items) old.here.noted c.last_from-last.result = rw c.deref.ensures.value at c.last_from-last.ensures in
    let many : c.len-number.result ≡ length old.notes.items = first_of (search rules, omega arith) in
    let own = c.with_last.ensures ∙ ap (λ n. with_last c.last_from-last.result c.args.note (n + 1)) many in
    let number : c.len-self-inside.result ≡ length c.push.new.self.items = first_of (search rules, omega arith) in
    (one_more_note old.later.items old.notes.items c.push.new.self.items old.pending.items old.here c.args.self.now c.args.note c.last_from-last.result c.with_last.result c.len-self-inside.result
    c.self.invariant c.self.view_is c.requires latest own c.in_ok-push.ensures.items number).1

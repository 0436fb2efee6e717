use Rattle.std.proofs.Common.{◌≡◌, ◌<◌, ◌-◌, refl, sym, ap, ◌∙◌, arith}
use Rattle.std.specs.Prelude.{reverse, max}
use Rattle.pattern_match.specs.Ways.{entries_named}
use Rattle.pattern_match.proofs.WayLaws.{first_entry_taken, nothing_left}
use Rattle.pattern_match.proofs.ways.Ways.take_first.Goals as goal

pub returns-then-self-eq0 : goal.returns-then-self-eq0
returns-then-self-eq0 g c =
    let old = c.self.inside in
    (nothing_left old.later.items old.notes.items old.pending.items old.here c.args.self.now c.self.view_is c.if-self-eq0.true, refl)

pub invariant_of-self : goal.invariant_of-self
invariant_of-self g c =
    let old = c.self.inside in
    let some : 0 < old.here.next = omega arith in
    let kept : c.max-kept.result ≡ max (old.here.next - 1) (entries_named (reverse old.pending.items)) =
    c.max-kept.ensures ∙ ap (max (old.here.next - 1)) (c.entries_named.ensures ∙ ap (λ ps. entries_named (reverse ps)) c.deref.ensures.value) in
    let taken = first_entry_taken old.later.items c.truncate.new.self.items old.notes.items old.pending.items old.here c.args.self.now c.index-entry.result.now c.max-kept.result
    c.self.invariant c.self.view_is some c.index-entry.ensures kept c.truncate.ensures.items in
    taken.0

pub returns : goal.returns
returns g c =
    let old = c.self.inside in
    let some : 0 < old.here.next = omega arith in
    let kept : c.max-kept.result ≡ max (old.here.next - 1) (entries_named (reverse old.pending.items)) =
    c.max-kept.ensures ∙ ap (max (old.here.next - 1)) (c.entries_named.ensures ∙ ap (λ ps. entries_named (reverse ps)) c.deref.ensures.value) in
    let taken = first_entry_taken old.later.items c.truncate.new.self.items old.notes.items old.pending.items old.here c.args.self.now c.index-entry.result.now c.max-kept.result
    c.self.invariant c.self.view_is some c.index-entry.ensures kept c.truncate.ensures.items in
    (taken.1, sym taken.2, sym taken.3)

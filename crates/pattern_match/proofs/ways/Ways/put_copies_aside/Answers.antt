use Rattle.std.proofs.Common.{◌≡◌, ℕ, zero, suc, ◌≤◌, ◌<◌, ◌+◌, length, ap, ◌∙◌, arith, rules}
use Rattle.std.specs.Prelude.{◌^◌}
use Rattle.pattern_match.specs.Ways.{Ways}
use Rattle.pattern_match.proofs.WayLaws.{one_more_pending}
use Rattle.pattern_match.proofs.ways.Ways.put_copies_aside.Goals as goal

of_more : (col count : ℕ) → col < 2 ^ 64 → (1 < count → col + count ≤ 2 ^ 64) → col + count ≤ 2 ^ 64
of_more col zero h k = omega arith
of_more col (suc zero) h k = omega arith
of_more col (suc (suc count)) h k = k (omega arith)

pub invariant_of-self-2 : goal.invariant_of-self-2
invariant_of-self-2 g c =
    let old = c.self.inside in
    let col : old.here.at.col ≡ c.args.self.now.here.way.at.col = ap (λ (v : Ways g.row.T.Denot). v.here.way.at.col) c.self.view_is in
    let columns : old.here.at.col + c.args.count ≤ 2 ^ 64 = of_more old.here.at.col c.args.count (omega arith) (λ more. rw col (c.requires.columns more)) in
    let few : c.pending-before.result + c.args.count < 2 ^ 64 = omega arith in
    let later : c.len.result ≡ length old.later.items = first_of (search rules, omega arith) in
    let notes : c.len-2.result ≡ length old.notes.items = first_of (search rules, omega arith) in
    (one_more_pending old.later.items old.notes.items old.pending.items c.push.new.self.items old.here c.args.self.now c.args.count c.pending-before.result
    c.self.invariant c.self.view_is c.requires.some columns c.pending-before.ensures few (c.in_ok-push.ensures.items ∙ rw (later, notes))).0

use Rattle.std.proofs.Common.{arith, ap, sym, ◌∙◌, ◌≡◌, ◌-◌, suc, length}
use Rattle.std.proofs.lemmas.List.{get_or_read}
use Rattle.chunk_list.proofs.EndLaws.{count_is, count_none}
use Rattle.chunk_list.proofs.list.ChunkList.len.Goals as goal

pub returns-then-count-eq0-clause-count : goal.returns-then-count-eq0-clause-count
returns-then-count-eq0-clause-count g c =
    let seen = ap (λ p. p.0) c.self.view_is in
    let none : length c.self.inside.ends.items ≡ 0 = omega (arith, c.self.inside.ends.ok.0, c.len-count.ensures, c.if-count-eq0.true) in
    sym (count_none c.self.inside.chunks.items c.self.inside.ends.items c.self.invariant.ends_are none) ∙ ap length seen

pub returns-else-count-eq0-clause-count : goal.returns-else-count-eq0-clause-count
returns-else-count-eq0-clause-count g c =
    let seen = ap (λ p. p.0) c.self.view_is in
    let ends = c.self.inside.ends.items in
    let n = c.len-count.result - 1 in
    let some : length ends ≡ suc n = omega (arith, c.self.inside.ends.ok.0, c.len-count.ensures, c.if-count-eq0.false) in
    get_or_read ends n c.index.result.now (omega arith) c.index.ensures 0
    ∙ count_is c.self.inside.chunks.items ends n c.self.invariant.ends_are some ∙ ap length seen

pub returns-else-count-eq0-clause-few : goal.returns-else-count-eq0-clause-few
returns-else-count-eq0-clause-few g c =
    let ends = c.self.inside.ends.items in
    let n = c.len-count.result - 1 in
    let some : length ends ≡ suc n = omega (arith, c.self.inside.ends.ok.0, c.len-count.ensures, c.if-count-eq0.false) in
    let is = get_or_read ends n c.index.result.now (omega arith) c.index.ensures 0
    ∙ count_is c.self.inside.chunks.items ends n c.self.invariant.ends_are some in
    omega (arith, is, c.self.invariant.few)

use Rattle.region_ends.proofs.Common.{subst, ItemId, end_in_line, no_externals, search_of, IsEnd, answer_at}
use Rattle.region_ends.proofs.end_memo.EndMemo.known.Goals as goal

pub returns-then-not-has : goal.returns-then-not-has
returns-then-not-has c items sets budget t stands =
    let from = c.args.from in
    let known = c.in_ok-known.known.now in
    let tells = c.tells_of.ensures c.if-tells_of.true in
    subst (λ (i : ItemId). IsEnd (answer_at known.end from.line) i (end_in_line (search_of items sets budget t i no_externals from))) tells.same
    (stands.known c.args.region.0 known c.in_ok-known.ensures.some from.col tells.first tells.to (c.has.ensures.absent c.if-not-has.true) tells.reaches)

use Rattle.item_pick.proofs.Common.{ℕ, below_more, arith, get_or, place_at, rules_by, IsQuiet, item_numbered}
use Rattle.item_pick.proofs.tables.Tables.are_still.Goals as goal

pub loop-id-preserved : goal.loop-id-preserved
loop-id-preserved c t l known key floor held =
    let r = rules_by c.args._asked.now in
    let behind = c.in-Some.ensures r t l known.line in
    below_more (λ (k : ℕ). IsQuiet r t (place_at l c.args.col) floor c.args.looked (item_numbered (get_or c.args.list.now k 0))) _ (c.loop-id.invariant t l known key floor held)
    (c.rests.ensures c.if-not-rests.false t l c.args.col floor known key behind.0 behind.1 held)

pub returns : goal.returns
returns c _ t l known key floor held k h = c.loop-id.invariant t l known key floor held k (omega (arith, h, c.loop-id-test.false))

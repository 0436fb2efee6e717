use Rattle.item_pick.proofs.Common.{below_more, arith}
use Rattle.item_pick.proofs.runs.Search.settled_until.Goals as goal

pub loop-id-preserved-then-is_barren : goal.loop-id-preserved-then-is_barren
loop-id-preserved-then-is_barren c =
    let before = c.loop-id.invariant in
    let sought = c.args.self.now in
    record {
      within = before.within;
      quiet = λ r t l line held. below_more _ _ (before.quiet r t l line held)
          (λ n a b. c.is_barren.ensures c.if-is_barren.true r t l line n sought.floor sought.looked (omega (arith, b, before.within, line.keys.many)) held);
    }

pub loop-id-preserved : goal.loop-id-preserved
loop-id-preserved c =
    let before = c.loop-id.invariant in
    record {
      within = omega (arith, before.within, c.min-end.ensures);
      quiet = λ r t l line held. below_more _ _ (λ k h n a b. before.quiet r t l line held k h n a (omega (arith, b, c.min-end.ensures)))
          (λ n a b. c.told_to-to.ensures r t l line held n a (omega (arith, b, c.min-end.ensures)));
    }

pub returns : goal.returns
returns c r t l line held k h = c.loop-id.invariant.quiet r t l line held k (omega (arith, h, c.loop-id-test.false))

use Rattle.item_pick.proofs.Common.{ℕ, below_more, arith, rules_in, item_numbered}
use Rattle.std.proofs.lemmas.List.Elements.{All-from_get_or}
use Rattle.item_pick.specs.Tables.{StartsCheaply}
use Rattle.item_pick.proofs.asked.Asked.start_cheaply.Goals as goal

pub loop-id-preserved : goal.loop-id-preserved
loop-id-preserved c = below_more _ _ c.loop-id.invariant (c.starts_cheaply.ensures c.if-not-starts_cheaply.false)

pub returns : goal.returns
returns c _ =
    All-from_get_or (λ (j : ℕ). StartsCheaply (rules_in c.args.self.now.parts.now c.args.self.now.budget) (item_numbered j)) c.args.items.now 0
    (λ k h. c.loop-id.invariant k (omega (arith, h, c.loop-id-test.false)))

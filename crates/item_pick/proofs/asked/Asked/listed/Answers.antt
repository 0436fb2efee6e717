use Rattle.item_pick.proofs.Common.{below_more, ap, length, arith, subst, sym, RisesTo}
use Rattle.item_pick.proofs.TableLaws.{none_rises, rises_on}
use Rattle.item_pick.proofs.asked.Asked.listed.Goals as goal

pub loop-id-init : goal.loop-id-init
loop-id-init c = record {
  lists = λ j h. absurd (omega (arith, h));
  rises = subst (RisesTo 0) (sym c.new-items.ensures.items) (none_rises 0);
  admitted = λ k d h. absurd (omega (arith, h, ap length c.new-items.ensures.items));
}

pub loop-id-preserved : goal.loop-id-preserved
loop-id-preserved c = record {
  lists = below_more _ _ (λ j h admitted lacks. c.loop-id.invariant.lists j h admitted (c.put_admitted.ensures.kept j lacks)) c.in_ok-put_admitted.ensures.here;
  rises = rises_on c.loop-id.id _ _ (omega arith) (c.put_admitted.ensures.rises c.loop-id.invariant.rises);
  admitted = c.put_admitted.ensures.admitted c.loop-id.invariant.admitted;
}

pub returns-clause-lists : goal.returns-clause-lists
returns-clause-lists c j within = c.loop-id.invariant.lists j (omega (arith, within))

pub returns-clause-rises : goal.returns-clause-rises
returns-clause-rises c = c.loop-id.invariant.rises.rises

pub returns-clause-admitted : goal.returns-clause-admitted
returns-clause-admitted c = c.loop-id.invariant.admitted

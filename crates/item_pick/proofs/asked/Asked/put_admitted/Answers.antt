use Rattle.item_pick.proofs.TableLaws.{rises_by}
use Rattle.item_pick.proofs.asked.Asked.put_admitted.Goals as goal

pub returns-in_ok-push-clause-rises : goal.returns-in_ok-push-clause-rises
returns-in_ok-push-clause-rises c = rises_by _ _ _ c.in_ok-push.ensures.items

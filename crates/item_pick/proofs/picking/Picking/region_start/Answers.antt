use Rattle.item_pick.proofs.OwnLaws.{region_there}
use Rattle.item_pick.proofs.picking.Picking.region_start.Goals as goal

pub returns-clause-there : goal.returns-clause-there
returns-clause-there g c = region_there c.args.self.now.asked.now.parts.now.items.now c.args.id c.args.start c.args.m c.in_ok-end.end c.requires.item c.requires.region c.requires.start

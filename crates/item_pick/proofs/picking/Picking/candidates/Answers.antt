use Rattle.item_pick.proofs.Common.{length}
use Rattle.item_pick.proofs.WordLaws.{candidates_there}
use Rattle.item_pick.proofs.picking.Picking.candidates.Goals as goal

pub returns-clause-items : goal.returns-clause-items
returns-clause-items g c =
    let parts = c.args.self.now.asked.now.parts.now in
    candidates_there (length parts.items.now) parts.keywords.now c.args.word.now c.candidates.result c.requires.words c.candidates.ensures

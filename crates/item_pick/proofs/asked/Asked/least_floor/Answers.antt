use Rattle.item_pick.proofs.Common.{◌∙◌, sym, rules_in}
use Rattle.item_pick.proofs.TableLaws.{enough_by}
use Rattle.item_pick.proofs.asked.Asked.least_floor.Goals as goal

pub returns-then-has_one_start : goal.returns-then-has_one_start
returns-then-has_one_start c =
    let r = rules_in c.args.self.now.parts.now c.args.self.now.budget in
    enough_by r c.args.by.now.item c.args.by.now.pattern.now c.args.col (sym c.has_one_start.ensures ∙ c.if-has_one_start.true) c.requires.first c.floor_for.result c.floor_for.ensures

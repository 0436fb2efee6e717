use Rattle.item_pick.proofs.Common.{◌∙◌, sym}
use Rattle.item_pick.proofs.BareLaws.{bare_by, no_items}
use Rattle.item_pick.proofs.tables.Tables.is_bare.Goals as goal

pub returns-in-Some : goal.returns-in-Some
returns-in-Some c e r tables =
    let row = c.in-Some.all.now in
    let told = c.in-Some.ensures in
    bare_by r row c.args.choice (told.stands r tables) told.choice told.number c.if-all.true (sym c.as_slice.ensures.value ∙ no_items c.as_slice.result.now (sym c.is_empty.ensures ∙ e))

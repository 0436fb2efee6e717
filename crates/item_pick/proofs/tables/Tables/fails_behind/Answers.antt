use Rattle.item_pick.proofs.Common.{item_numbered, rest_asked}
use Rattle.item_pick.proofs.KeptLaws.{first_by}
use Rattle.item_pick.proofs.tables.Tables.fails_behind.Goals as goal

pub returns : goal.returns
returns c e r t l at floor known key held =
    c.is_near.ensures c.if-not-is_near.false r t l known.line at c.args.number floor key
    (first_by rest_asked r (item_numbered c.args.id) c.args.number (c.is_told.ensures e r known.tables.firsts)) held

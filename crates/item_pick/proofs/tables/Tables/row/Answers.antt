use Rattle.item_pick.proofs.Common.{subst, sym, All, RowStands}
use Rattle.item_pick.proofs.tables.Tables.row.Goals as goal

pub returns-clause-stands : goal.returns-clause-stands
returns-clause-stands c r tables =
    c.row_at.ensures.stands r (subst (All (RowStands r)) (sym c.as_slice.ensures.value) tables.rows)

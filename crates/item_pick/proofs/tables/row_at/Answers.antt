use Rattle.item_pick.proofs.Common.{subst, sym, RowStands}
use Rattle.item_pick.proofs.tables.row_at.Goals as goal

pub returns-then-row-number-clause-stands : goal.returns-then-row-number-clause-stands
returns-then-row-number-clause-stands c r rows =
    let found = c.in_ok-row.ensures.lookup in
    subst (RowStands r) (sym found.1) (rows c.args.place c.in_ok-row.row.now found.3.0)

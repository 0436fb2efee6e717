use Rattle.item_pick.proofs.Common.{subst, sym, All, rules_in, ListStands, RowStands}
use Rattle.item_pick.proofs.TablesKept.{with_outs}
use Rattle.item_pick.proofs.tables.Tables.make.Goals as goal

pub narrowed-requires-clause-stands : goal.narrowed-requires-clause-stands
narrowed-requires-clause-stands c =
    let r = rules_in c.args.asked.now.parts.now c.args.asked.now.budget in
    c.in-Some-row_at.ensures.stands r (subst (All (RowStands r)) (sym c.as_slice.ensures.value) c.make_whole.ensures.rows)

pub row-requires-clause-lists : goal.row-requires-clause-lists
row-requires-clause-lists c =
    let r = rules_in c.args.asked.now.parts.now c.args.asked.now.budget in
    subst (λ choice. ListStands r choice c.args.number c.in_ok-items-in-Some-row_at.items.items) c.in-Some-row_at.ensures.choice c.in_ok-items-in-Some-row_at.ensures.lists

pub returns-in_err-items-in-Some-row_at : goal.returns-in_err-items-in-Some-row_at
returns-in_err-items-in-Some-row_at c = with_outs (rules_in c.args.asked.now.parts.now c.args.asked.now.budget) c.make_whole.new.self c.make_whole.ensures c.narrowed.new.outs c.narrowed.ensures.outs

pub returns-in_err-row : goal.returns-in_err-row
returns-in_err-row c = with_outs (rules_in c.args.asked.now.parts.now c.args.asked.now.budget) c.make_whole.new.self c.make_whole.ensures c.narrowed.new.outs c.narrowed.ensures.outs

pub returns : goal.returns
returns c =
    let r = rules_in c.args.asked.now.parts.now c.args.asked.now.budget in
    c.keep.ensures r (with_outs r c.make_whole.new.self c.make_whole.ensures c.narrowed.new.outs c.narrowed.ensures.outs) c.in_ok-row.ensures

use Rattle.item_pick.proofs.Common.{refl, subst, sym, All, rules_in, IsWanted}
use Rattle.item_pick.proofs.LineLaws.{ok_always}
use Rattle.item_pick.proofs.memory.PickMemory.enter_line.Goals as goal

pub returns-clause-entered : goal.returns-clause-entered
returns-clause-entered c budget t l line tables =
    let r = rules_in c.args.parts.now budget in
    let entered = c.in_ok-enter.ensures r t l refl line in
    let all = subst (All (IsWanted r)) (sym c.as_slice.ensures.value) tables.wanted in
    ok_always _ c.note_all_lacking.result (record { tables = tables; line = c.note_all_lacking.ensures c.args.parts.now budget t l all entered })

use Rattle.item_pick.proofs.Common.{subst, sym, All, rules_by, IsWanted}
use Rattle.item_pick.proofs.memory.PickMemory.lacks_need.Goals as goal

pub returns-in_err-note_all_lacking-in-Some-clause-stands : goal.returns-in_err-note_all_lacking-in-Some-clause-stands
returns-in_err-note_all_lacking-in-Some-clause-stands c t l memory =
    let asked = c.args.asked.now in
    let r = rules_by asked in
    let tables = c.want.ensures r c.in-Some.ensures (c.is_due.ensures r memory.tables) in
    let all = subst (All (IsWanted r)) (sym c.as_slice.ensures.value) tables.wanted in
    record { tables = tables; line = c.note_all_lacking.ensures asked.parts.now asked.budget t l all memory.line }

pub returns-in_ok-note_all_lacking-in-Some-clause-stands : goal.returns-in_ok-note_all_lacking-in-Some-clause-stands
returns-in_ok-note_all_lacking-in-Some-clause-stands c t l memory =
    let asked = c.args.asked.now in
    let r = rules_by asked in
    let tables = c.want.ensures r c.in-Some.ensures (c.is_due.ensures r memory.tables) in
    let all = subst (All (IsWanted r)) (sym c.as_slice.ensures.value) tables.wanted in
    record { tables = tables; line = c.note_all_lacking.ensures asked.parts.now asked.budget t l all memory.line }

pub returns-in_ok-note_all_lacking-in-Some-clause-nowhere : goal.returns-in_ok-note_all_lacking-in-Some-clause-nowhere
returns-in_ok-note_all_lacking-in-Some-clause-nowhere c e t l memory =
    let asked = c.args.asked.now in
    let r = rules_by asked in
    let tables = c.want.ensures r c.in-Some.ensures (c.is_due.ensures r memory.tables) in
    let all = subst (All (IsWanted r)) (sym c.as_slice.ensures.value) tables.wanted in
    c.is_barren.ensures e r t l (c.note_all_lacking.ensures asked.parts.now asked.budget t l all memory.line)

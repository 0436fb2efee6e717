use Rattle.item_pick.proofs.tables.Tables.left_in.Goals as goal

pub returns-in-Some-clause-next : goal.returns-in-Some-clause-next
returns-in-Some-clause-next c t l line key held =
    c.in-Some.ensures.next t l (record { tables = c.requires.stands; line = line }) key held

use Rattle.item_pick.proofs.Common.{place_at, rules_by, item_numbered}
use Rattle.item_pick.proofs.FutileLaws.{futile_after}
use Rattle.item_pick.proofs.TableLaws.{idle_quiet}
use Rattle.item_pick.proofs.tables.Tables.rests.Goals as goal

pub returns-then-is_barren : goal.returns-then-is_barren
returns-then-is_barren c _ t l col floor known key later behind held =
    c.is_barren.ensures c.if-is_barren.true (rules_by c.args._asked.now) t l known.line col floor c.args.looked key.0 held

pub returns-then-is_idle : goal.returns-then-is_idle
returns-then-is_idle c _ t l col floor known key later behind held =
    let asked = c.args._asked.now in
    let r = rules_by asked in
    idle_quiet r (futile_after asked.parts.now.sets.now asked.budget) t (place_at l col) c.args.behind behind later (item_numbered c.args.id)
    (c.is_idle.ensures c.if-is_idle.true r known.tables.firsts) floor c.args.looked held

pub returns : goal.returns
returns c e t l col floor known key later behind held = c.fails_behind.ensures e (rules_by c.args._asked.now) t l col floor known key held

use Rattle.std.proofs.Common.{sym}
use Rattle.pattern_items.proofs.VainLaws.{vain_behind_first}
use Rattle.pattern_items.proofs.vain.first_collection_end.Goals as goal

pub returns-in-None-clause-known : goal.returns-in-None-clause-known
returns-in-None-clause-known c =
    let first = c.in-Some-eq91-default in
    vain_behind_first first.field-0-0 c.args.text.now first.more.now first.ensures (sym c.in-None.ensures.value)

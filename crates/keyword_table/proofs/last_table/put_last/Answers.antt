use Rattle.std.proofs.Common.{Some}
use Rattle.std.proofs.lemmas.Result.{on_ok_weaker}
use Rattle.keyword_table.proofs.KeyLaws.{last_at-updated}
use Rattle.keyword_table.proofs.last_table.put_last.Goals as goal

pub returns-clause-put : goal.returns-clause-put
returns-clause-put c =
    on_ok_weaker c.insert.result (last_at-updated c.args.key.items c.args.table.now c.insert.new.self (Some c.args.place)) c.insert.ensures.updates

use Rattle.std.proofs.Common.{◌≡◌, arith}
use Rattle.syn_base.specs.declared.looked.Looked.{Looked}
use Rattle.pattern_match.specs.declared.spent.Spent.{Spent}
use Rattle.pattern_match.specs.Spending.{spent_times}
use Rattle.pattern_match.proofs.SpendingLaws.{times-budget, times-cost}
use Rattle.pattern_match.proofs.vain.is_refused.Goals as goal

pub returns-in-Refused-clause-budget : goal.returns-in-Refused-clause-budget
returns-in-Refused-clause-budget g c =
    let s : Spent = c.args.spent.now in
    let spent : c.tick_times.new.self ≡ spent_times s c.in-Refused.ticks c.one.result = c.tick_times.ensures in
    rw spent (times-budget s c.in-Refused.ticks c.one.result)

pub returns-in-Refused-clause-within : goal.returns-in-Refused-clause-within
returns-in-Refused-clause-within g c =
    let s : Spent = c.args.spent.now in
    let looked : Looked = c.one.result in
    let cost = times-cost s c.in-Refused.ticks looked in
    let budget = times-budget s c.in-Refused.ticks looked in
    let spent : c.tick_times.new.self ≡ spent_times s c.in-Refused.ticks looked = c.tick_times.ensures in
    rw spent (omega arith)

use Rattle.std.proofs.Common.{◌≡◌, arith}
use Rattle.syn_base.specs.declared.looked.Looked.{Looked}
use Rattle.pattern_match.specs.declared.spent.Spent.{Spent}
use Rattle.pattern_match.specs.Spending.{spent_times}
use Rattle.pattern_match.proofs.SpendingLaws.{times-budget, times-cost}
use Rattle.pattern_match.proofs.others.other_refuses.Goals as goal

pub returns-clause-budget : goal.returns-clause-budget
returns-clause-budget g c =
    let s : Spent = c.args.spent.now in
    let spent : c.tick_times.new.self ≡ spent_times s c.in-Some.others.ticks c.one.result = c.tick_times.ensures in
    rw spent (times-budget s c.in-Some.others.ticks c.one.result)

pub returns-clause-within : goal.returns-clause-within
returns-clause-within g c =
    let s : Spent = c.args.spent.now in
    let looked : Looked = c.one.result in
    let cost = times-cost s c.in-Some.others.ticks looked in
    let budget = times-budget s c.in-Some.others.ticks looked in
    let spent : c.tick_times.new.self ≡ spent_times s c.in-Some.others.ticks looked = c.tick_times.ensures in
    rw spent (omega arith)

use Rattle.std.proofs.Common.{◌≡◌, arith}
use Rattle.syn_base.specs.declared.looked.Looked.{Looked}
use Rattle.pattern_match.specs.declared.spent.Spent.{Spent}
use Rattle.pattern_match.specs.Spending.{spent_times}
use Rattle.pattern_match.proofs.SpendingLaws.{times-budget, times-cost}
use Rattle.pattern_match.proofs.sight.go_further.Goals as goal

pub returns-clause-goes : goal.returns-clause-goes
returns-clause-goes g c =
    let s : Spent = c.args.sight.now.spent in
    let looked : Looked = c.one.result in
    let cost = times-cost s c.args.count looked in
    let budget = times-budget s c.args.count looked in
    let spent : c.tick_times.new.self ≡ spent_times s c.args.count looked = c.tick_times.ensures in
    let columns = c.requires.columns in
    record {
      stands = record {
        on_text = rw c.columns_on-sight.ensures (record { line = c.requires.stands.on_text.line; col = columns });
        within = rw spent (omega arith);
      };
      left = omega arith;
      budget = rw spent budget;
    }

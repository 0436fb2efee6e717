use Rattle.std.proofs.Common.{◌∙◌}
use Rattle.pattern_match.proofs.SpendingLaws.{times-once}
use Rattle.pattern_match.proofs.spent.Spent.tick_times.Goals as goal

pub returns-then-count-gt0 : goal.returns-then-count-gt0
returns-then-count-gt0 c = c.look.ensures ∙ times-once c.args.self.now c.args.count c.args.looked c.if-count-gt0.true

use Rattle.std.proofs.Common.{arith}
use Rattle.ex_substitute.proofs.CountLaws.{between-breaks}
use Rattle.ex_substitute.proofs.line_count.breaks_between.Goals as goal

pub returns : goal.returns
returns g c = omega (arith, between-breaks (g.T.Lines.lines c.args.lines.now) c.args.from c.args.to)

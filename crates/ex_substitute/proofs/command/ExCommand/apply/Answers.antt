use Rattle.ex_substitute.proofs.FitLaws.{applied-fits}
use Rattle.ex_substitute.proofs.command.ExCommand.apply.Goals as goal

pub returns-in-Ok-clause-fits : goal.returns-in-Ok-clause-fits
returns-in-Ok-clause-fits g c =
    applied-fits c.args.self.now (g.T.Lines.lines c.args.lines.now) c.args.a c.args.b c.args.budget c.in-Ok.change
    c.requires.order c.requires.within c.in-Ok.ensures

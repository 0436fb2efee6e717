use Rattle.vimsyn_cli.proofs.PrintLaws.{columns_few, spans_there}
use Rattle.vimsyn_cli.proofs.spans.spans_at.Goals as goal

pub returns-clause-is : goal.returns-clause-is
returns-clause-is g c = spans_there (g.P.Colours.coloured c.args.painting.now) c.args.number c.spans.result.now c.spans.ensures

pub returns-clause-columns : goal.returns-clause-columns
returns-clause-columns g c =
    columns_few (g.P.Lines.lines c.args.painting.now) (g.P.Colours.coloured c.args.painting.now) c.args.number c.columns_of-columns.result _ c.line.result.now c.spans.result.now
    c.requires.fit c.line.ensures c.spans.ensures c.columns_of-columns.ensures.is c.columns_of-columns.ensures.few

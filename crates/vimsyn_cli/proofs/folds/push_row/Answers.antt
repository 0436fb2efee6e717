use Rattle.vimsyn_cli.proofs.FoldLaws.{line_row, lines_row}
use Rattle.vimsyn_cli.proofs.folds.push_row.Goals as goal

pub returns-in-Line : goal.returns-in-Line
returns-in-Line c =
    line_row c.args.painted.now.text c.args.close c.in-Line.line c.args.row.now c.line.result.now c.args.out.now.items c.push_line.new.out.items c.push_line.result
    c.in-Line.is c.line.ensures c.push_line.ensures

pub returns-in-Closed : goal.returns-in-Closed
returns-in-Closed c =
    lines_row c.args.painted.now.text c.args.close c.in-Closed.first c.in-Closed.last c.args.row.now c.line-in-Closed.result.now c.args.out.now.items c.push_closed.new.out.items c.push_closed.result
    c.in-Closed.is c.line-in-Closed.ensures c.push_closed.ensures

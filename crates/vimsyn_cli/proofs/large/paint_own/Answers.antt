use Rattle.std.proofs.Common.{◌≤◌, arith}
use Rattle.vimsyn_cli.proofs.LargeLaws.{kept_painted, kept_steps}
use Rattle.vimsyn_cli.proofs.large.paint_own.Goals as goal

pub returns-clause-planned : goal.returns-clause-planned
returns-clause-planned g c = kept_painted c.args.words.now c.args.page.now c.painting.result.now c.args.files.files c.paint.result c.painting.ensures c.requires.page c.requires.files c.paint.ensures.reads.planned c.paint.ensures.reads.faults

pub returns-clause-steps : goal.returns-clause-steps
returns-clause-steps g c =
    let is = c.lines-lines.ensures.is in
    let least = c.lines-lines.ensures.some in
    let most = c.lines-lines.ensures.few in
    let some : 1 ≤ c.args.words.now.lines = omega arith in
    let few : c.args.words.now.lines ≤ 100000 = omega arith in
    kept_steps c.args.words.now c.args.page.now c.painting.result.now c.args.files.files c.args.steps.now c.paint.new.steps c.painting.ensures c.requires.page c.requires.files some few c.paint.ensures.steps

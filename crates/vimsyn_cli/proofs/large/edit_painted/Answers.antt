use Rattle.std.proofs.Common.{◌≤◌, arith}
use Rattle.vimsyn_cli.proofs.LargeLaws.{painted_few}
use Rattle.vimsyn_cli.proofs.large.edit_painted.Goals as goal

pub carry_out_edits-requires-clause-few : goal.carry_out_edits-requires-clause-few
carry_out_edits-requires-clause-few g c =
    let is = c.lines-lines.ensures.is in
    let least = c.lines-lines.ensures.some in
    let most = c.lines-lines.ensures.few in
    let some : 1 ≤ c.args.words.now.lines = omega arith in
    let few : c.args.words.now.lines ≤ 100000 = omega arith in
    painted_few c.args.words.now c.args.painted some few c.requires.painted

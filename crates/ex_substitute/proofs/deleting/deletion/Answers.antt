use Rattle.std.proofs.Common.{◌≡◌, ◌<◌, length, arith}
use Rattle.ex_substitute.specs.Deleting.{last_of}
use Rattle.ex_substitute.proofs.DeleteLaws.{last-below}
use Rattle.ex_substitute.proofs.deleting.deletion.Goals as goal

pub overflow_add-result : goal.overflow_add-result
overflow_add-result g c =
    let text = g.T.Lines.lines c.args.lines.now in
    let below : last_of c.args.first c.args.rest.now < length text = last-below (length text) c.args.first c.args.rest.now c.requires.first c.requires.rest in
    let same : c.last_of.result ≡ last_of c.args.first c.args.rest.now = c.last_of.ensures in
    omega arith

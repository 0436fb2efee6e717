use Rattle.std.proofs.Common.{arith, ◌≤◌, length}
use Rattle.chunk_list.proofs.ReplacedLaws.{length-replaced}
use Rattle.library_rows.proofs.texts.change_text.Goals as goal

pub replace-requires-clause-some : goal.replace-requires-clause-some
replace-requires-clause-some c =
    let lines = c.args.text.now.lines in
    let count = length-replaced lines c.args.a c.args.b c.args.new (omega arith) (omega (arith, c.len-count.ensures)) in
    omega (arith, count)

pub replace-requires-clause-few : goal.replace-requires-clause-few
replace-requires-clause-few c =
    let lines = c.args.text.now.lines in
    let count = length-replaced lines c.args.a c.args.b c.args.new (omega arith) (omega (arith, c.len-count.ensures)) in
    omega (arith, count)

use Rattle.std.proofs.Common.{rules}
use Rattle.text_scan.proofs.DropLaws.{drop_further}
use Rattle.text_scan.proofs.numbers.digits.Goals as goal

pub loop-c-preserved : goal.loop-c-preserved
loop-c-preserved c = search (rules, drop_further)

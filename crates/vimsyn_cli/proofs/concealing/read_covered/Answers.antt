use Rattle.std.proofs.Common.{rules}
use Rattle.vimsyn_cli.proofs.ConcealLaws.{covered_read, crowded_told}
use Rattle.vimsyn_cli.proofs.concealing.read_covered.Goals as goal

pub returns : goal.returns
returns g c = record {
  kept = search rules;
  planned = covered_read (g.F.Files.told c.args.files.now) (g.F.Files.told c.read.new.files) c.args.words.now c.syntax.result.now c.in_ok-syntax.syntax c.covered.result
      c.in_ok-syntax.ensures.kept c.syntax.ensures c.in_ok-syntax.ensures.planned c.covered.ensures.expected;
  told = crowded_told c.syntax.result.now c.args.words.now c.covered.result c.syntax.ensures c.covered.ensures.told;
  faults = search rules;
  misses = search rules;
  longs = search rules;
}

use Rattle.std.proofs.Common.{rules}
use Rattle.vimsyn_cli.proofs.ReadingLaws.{error_planned, syntax_planned}
use Rattle.vimsyn_cli.proofs.reading.read.Goals as goal

pub returns-in-Ok : goal.returns-in-Ok
returns-in-Ok g c = record {
  kept = search rules;
  planned =
      syntax_planned (g.F.Files.told c.args.files.now) c.args.words.now c.syntax.result.now c.in_ok-options.options c.in-Ok.syntax
      c.syntax.ensures c.in_ok-options.ensures c.in-Ok.ensures.answer;
  told = search rules;
  faults = search rules;
  misses = search rules;
  longs = search rules;
}

pub returns : goal.returns
returns g c = record {
  kept = search rules;
  planned =
      error_planned (g.F.Files.told c.args.files.now) c.args.words.now c.syntax.result.now c.in_ok-options.options c.in-Err.error c.stop_for.result
      c.syntax.ensures c.in_ok-options.ensures c.stop_for.ensures c.in-Err.ensures.answer;
  told = search rules;
  faults = search rules;
  misses = search rules;
  longs = search rules;
}

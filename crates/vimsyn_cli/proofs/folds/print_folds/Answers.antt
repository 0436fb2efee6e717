use Rattle.std.proofs.Common.{rules, ap, ◌∙◌}
use Rattle.std.specs.Prelude.{Err}
use Rattle.std.proofs.lemmas.Result.{err_from_is_err_and}
use Rattle.vimsyn_cli.specs.Folds.{folds_shown}
use Rattle.vimsyn_cli.proofs.PaintLaws.{print_counted, print_stopped, printed}
use Rattle.vimsyn_cli.proofs.folds.print_folds.Goals as goal

pub returns-in_err-painted : goal.returns-in_err-painted
returns-in_err-painted g c =
    let p = err_from_is_err_and c.from_residual.result c.from_residual.ensures.1 in
    record {
      reads = record {
        kept = c.in_err-painted.ensures.reads.kept;
        planned = print_stopped (g.F.Files.told c.args.files.now) c.args.words.now.painting c.painting.result.now (folds_shown c.args.words.now.close) c.in_err-painted.field-0.0 c.from_residual.result
            c.painting.ensures c.in_err-painted.ensures.reads.planned (p.1 ∙ ap Err p.2);
        told = search rules;
        faults = search rules;
        misses = search rules;
        longs = search rules;
      };
      steps = print_counted (g.F.Files.told c.args.files.now) c.args.words.now.painting c.painting.result.now c.args.steps.now c.paint.new.steps
          c.painting.ensures c.in_err-painted.ensures.steps;
    }

pub returns : goal.returns
returns g c = record {
  reads = record {
    kept = c.in_ok-painted.ensures.reads.kept;
    planned = printed (g.F.Files.told c.args.files.now) c.args.words.now.painting c.painting.result.now (folds_shown c.args.words.now.close) c.in_ok-painted.painted _
        c.painting.ensures c.in_ok-painted.ensures.reads.planned c.in_ok-print_painted.ensures;
    told = search rules;
    faults = search rules;
    misses = search rules;
    longs = search rules;
  };
  steps = print_counted (g.F.Files.told c.args.files.now) c.args.words.now.painting c.painting.result.now c.args.steps.now c.paint.new.steps
      c.painting.ensures c.in_ok-painted.ensures.steps;
}

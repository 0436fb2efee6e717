use Rattle.std.proofs.Common.{rules, ap, ◌∙◌}
use Rattle.std.specs.Prelude.{Err}
use Rattle.std.proofs.lemmas.Result.{err_from_is_err_and}
use Rattle.text_buffer.specs.TextSeen.{TextSeen}
use Rattle.vimsyn_cli.proofs.PaintLaws.{both_read, syntax_stopped, text_counted, text_fault_told, text_stopped}
use Rattle.vimsyn_cli.proofs.painting.paint.Goals as goal

pub returns-in_err-syntax : goal.returns-in_err-syntax
returns-in_err-syntax g c =
    let p = err_from_is_err_and c.from_residual.result c.from_residual.ensures.1 in
    record {
      reads = record {
        kept = c.in_err-syntax.ensures.kept;
        planned = syntax_stopped (g.F.Files.told c.args.files.now) c.args.words.now c.syntax.result.now c.in_err-syntax.field-0.0 c.from_residual.result
            c.syntax.ensures c.in_err-syntax.ensures.planned (p.1 ∙ ap Err p.2);
        told = search rules;
        faults = search rules;
        misses = search rules;
        longs = search rules;
      };
      steps = search rules;
    }

pub returns-in_err-text : goal.returns-in_err-text
returns-in_err-text g c =
    let p = err_from_is_err_and c.from_residual-in_err-text.result c.from_residual-in_err-text.ensures.1 in
    record {
      reads = record {
        kept = search rules;
        planned = text_stopped (g.F.Files.told c.args.files.now) (g.F.Files.told c.read.new.files) c.args.words.now c.syntax.result.now c.in_ok-syntax.syntax c.text.result.now c.in_err-text.field-0.0 c.from_residual-in_err-text.result
            c.in_ok-syntax.ensures.kept c.syntax.ensures c.in_ok-syntax.ensures.planned c.text.ensures c.in_err-text.ensures.planned (p.1 ∙ ap Err p.2);
        told = text_fault_told TextSeen c.args.words.now c.text.result.now c.in_err-text.field-0.0 c.from_residual-in_err-text.result
            c.text.ensures c.in_err-text.ensures.told (p.1 ∙ ap Err p.2);
        faults = search rules;
        misses = search rules;
        longs = search rules;
      };
      steps = search rules;
    }

pub returns : goal.returns
returns g c = record {
  reads = record {
    kept = search rules;
    planned = both_read (g.F.Files.told c.args.files.now) (g.F.Files.told c.read.new.files) c.args.words.now c.syntax.result.now c.in_ok-syntax.syntax c.text.result.now c.in_ok-text.text.lines c.paint_text.result
        c.in_ok-syntax.ensures.kept c.syntax.ensures c.in_ok-syntax.ensures.planned c.text.ensures c.in_ok-text.ensures.planned c.paint_text.ensures.planned;
    told = search rules;
    faults = search rules;
    misses = search rules;
    longs = search rules;
  };
  steps = text_counted (g.F.Files.told c.args.files.now) (g.F.Files.told c.read.new.files) c.args.words.now c.text.result.now c.in_ok-text.text.lines c.args.steps.now c.paint_text.new.steps
      c.in_ok-syntax.ensures.kept c.text.ensures c.in_ok-text.ensures.planned c.paint_text.ensures.steps;
}

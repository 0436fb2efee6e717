use Rattle.std.proofs.Common.{rules, ap, ◌∙◌}
use Rattle.std.specs.Prelude.{Err}
use Rattle.std.proofs.lemmas.Result.{err_from_is_err_and}
use Rattle.syn_reader.specs.declared.syntax.Syntax.{Syntax}
use Rattle.text_buffer.specs.TextSeen.{TextSeen}
use Rattle.vimsyn_cli.proofs.ConcealLaws.{both_seen, refusal_seen, syntax_fault_seen, text_fault_seen, text_unseen, view_stopped}
use Rattle.vimsyn_cli.proofs.PaintLaws.{text_counted}
use Rattle.vimsyn_cli.proofs.concealing.conceal_text.Goals as goal

pub returns-in_err-syntax : goal.returns-in_err-syntax
returns-in_err-syntax g c =
    let p = err_from_is_err_and c.from_residual.result c.from_residual.ensures.1 in
    record {
      reads = record {
        kept = c.in_err-syntax.ensures.kept;
        planned = view_stopped (g.F.Files.told c.args.files.now) c.args.words.now c.syntax.result.now c.in_err-syntax.field-0.0 c.from_residual.result
            c.syntax.ensures c.in_err-syntax.ensures.planned (p.1 ∙ ap Err p.2);
        told = syntax_fault_seen Syntax c.args.words.now c.syntax.result.now c.in_err-syntax.field-0.0 c.from_residual.result
            c.requires.level c.syntax.ensures c.in_err-syntax.ensures.told (p.1 ∙ ap Err p.2);
        faults = search rules;
        misses = search rules;
        longs = search rules;
      };
      steps = search rules;
    }

pub returns-in_err-text : goal.returns-in_err-text
returns-in_err-text g c =
    let p = err_from_is_err_and c.from_residual-in_err-text.result c.from_residual-in_err-text.ensures.1 in
    record {
      reads = record {
        kept = search rules;
        planned = text_unseen (g.F.Files.told c.args.files.now) (g.F.Files.told c.read_covered.new.files) c.args.words.now c.syntax.result.now c.in_ok-syntax.syntax c.text.result.now c.in_err-text.field-0.0 c.from_residual-in_err-text.result
            c.in_ok-syntax.ensures.kept c.syntax.ensures c.in_ok-syntax.ensures.planned c.text.ensures c.in_err-text.ensures.planned (p.1 ∙ ap Err p.2);
        told = text_fault_seen TextSeen c.args.words.now c.text.result.now c.in_err-text.field-0.0 c.from_residual-in_err-text.result
            c.text.ensures c.in_err-text.ensures.told (p.1 ∙ ap Err p.2);
        faults = search rules;
        misses = search rules;
        longs = search rules;
      };
      steps = search rules;
    }

pub returns : goal.returns
returns g c = record {
  reads = record {
    kept = search rules;
    planned = both_seen (g.F.Files.told c.args.files.now) (g.F.Files.told c.read_covered.new.files) c.args.words.now c.syntax.result.now c.in_ok-syntax.syntax c.text.result.now c.in_ok-text.text.lines c.paint_marked.result
        c.in_ok-syntax.ensures.kept c.syntax.ensures c.in_ok-syntax.ensures.planned c.text.ensures c.in_ok-text.ensures.planned c.paint_marked.ensures.planned;
    told = refusal_seen c.args.words.now c.paint_marked.result c.paint_marked.ensures.told;
    faults = search rules;
    misses = search rules;
    longs = search rules;
  };
  steps = text_counted (g.F.Files.told c.args.files.now) (g.F.Files.told c.read_covered.new.files) c.args.words.now c.text.result.now c.in_ok-text.text.lines c.args.steps.now c.paint_marked.new.steps
      c.in_ok-syntax.ensures.kept c.text.ensures c.in_ok-text.ensures.planned c.paint_marked.ensures.steps;
}

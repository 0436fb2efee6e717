use Rattle.std.proofs.Common.{ap, refl}
use Rattle.state_cache.specs.PaintedText.{PaintedText}
use Rattle.state_cache.specs.Spans.{syntax_rules}
use Rattle.state_cache.proofs.KeptLaws.{spans}
use Rattle.state_cache.proofs.RefusalLaws.{of_painting}
use Rattle.state_cache.proofs.painted.Painted.replace_syntax.Goals as goal

pub returns-in-Ok-clause-painted : goal.returns-in-Ok-clause-painted
returns-in-Ok-clause-painted g c =
    let old = c.args.self.now in
    record {
      syntax_is = refl;
      text_is = ap (λ (v : PaintedText). v.text) c.self.view_is;
      budget_is = ap (λ (v : PaintedText). v.budget) c.self.view_is;
      spans_are = spans (syntax_rules c.args.syntax old.budget) old.text c.in-Ok.field-0.notes.0 c.in-Ok.ensures.noted.painted;
    }

pub returns-in-Err-clause-refused : goal.returns-in-Err-clause-refused
returns-in-Err-clause-refused g c =
    let old = c.args.self.now in
    of_painting (syntax_rules c.args.syntax old.budget) old.text c.in-Err.error c.in-Err.ensures.refused

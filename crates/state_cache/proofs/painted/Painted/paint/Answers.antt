use Rattle.std.proofs.Common.{refl}
use Rattle.state_cache.specs.Spans.{syntax_rules}
use Rattle.state_cache.proofs.KeptLaws.{spans}
use Rattle.state_cache.proofs.RefusalLaws.{of_painting}
use Rattle.state_cache.proofs.painted.Painted.paint.Goals as goal

pub notes_of-requires-clause-memory : goal.notes_of-requires-clause-memory
notes_of-requires-clause-memory g c = c.new-memory.ensures (syntax_rules c.args.syntax c.args.budget)

pub returns-in-Ok-clause-painted : goal.returns-in-Ok-clause-painted
returns-in-Ok-clause-painted g c = record {
  syntax_is = refl;
  text_is = refl;
  budget_is = refl;
  spans_are = spans (syntax_rules c.args.syntax c.args.budget) c.args.text.lines c.in-Ok.field-0.notes.0 c.in-Ok.ensures.noted.painted;
}

pub returns-in-Err-clause-refused : goal.returns-in-Err-clause-refused
returns-in-Err-clause-refused g c = of_painting (syntax_rules c.args.syntax c.args.budget) c.args.text.lines c.in-Err.error c.in-Err.ensures.refused

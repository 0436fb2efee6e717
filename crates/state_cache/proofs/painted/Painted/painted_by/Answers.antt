use Rattle.std.proofs.Common.{ap, sym, ◌∙◌}
use Rattle.paint_reuse.proofs.Walks.{kept}
use Rattle.paint_reuse.specs.Work.{kept_spans}
use Rattle.state_cache.specs.PaintedText.{PaintedText}
use Rattle.state_cache.specs.Shown.{lines_shown_otherwise, text_shown}
use Rattle.state_cache.specs.Spans.{syntax_rules}
use Rattle.state_cache.proofs.painted.Painted.painted_by.Goals as goal

pub notes_of-requires-clause-memory : goal.notes_of-requires-clause-memory
notes_of-requires-clause-memory g c = c.new-memory.ensures (syntax_rules c.args.syntax.now c.self.inside.budget)

-- both are of the lines of the text
pub lines-requires : goal.lines-requires
lines-requires g c =
    let p = c.self.inside in
    let old = kept (syntax_rules p.syntax p.budget) p.text.lines p.notes.0 c.self.invariant.noted.painted in
    let new = kept (syntax_rules c.args.syntax.now p.budget) p.text.lines c.in_ok-notes.field-0.notes.0 c.in_ok-notes.ensures.noted.painted in
    old.full ∙ sym new.full

pub returns-clause-told : goal.returns-clause-told
returns-clause-told g c =
    c.in_ok-lines.ensures
    ∙ ap (λ (v : PaintedText). lines_shown_otherwise (text_shown v.syntax v.spans) (text_shown c.args.syntax.now (kept_spans c.in_ok-notes.field-0.notes.0))) c.self.view_is

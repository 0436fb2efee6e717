use Rattle.std.proofs.Common.{◌∙◌, ◌≡◌, sym, ap, subst, Ok}
use Rattle.state_stack.specs.TopFirst.{top_first}
use Rattle.syn_reader.specs.Soundness.{SyntaxParts}
use Rattle.paint_reuse.specs.Kept.{KeptNote, line_note}
use Rattle.state_cache.specs.declared.refusal.EditError.{EditError}
use Rattle.state_cache.specs.Refusals.{RefusesLine}
use Rattle.state_cache.specs.Spans.{syntax_rules}
use Rattle.state_cache.proofs.PaintedNotes.{noted_as, refused_as}
use Rattle.state_cache.proofs.brush.Brush.paint.Goals as goal

pub returns-in-Ok-clause-noted : goal.returns-in-Ok-clause-noted
returns-in-Ok-clause-noted g c =
    let p = c.syntax.inside in
    let v : SyntaxParts = record { items = p.items; clusters = p.clusters; groups = p.groups; programs = p.programs; keywords = p.keywords; links = p.links; sets = p.sets } in
    let t = g.T.Lines.lines c.args.text.now in
    let P : SyntaxParts → Type 0 = λ v. line_note (syntax_rules v c.args.self.now.budget) t c.args.line (top_first c.args.before.now) ≡ Ok c.new.result in
    subst P c.syntax.view_is
    (noted_as (syntax_rules v c.args.self.now.budget) t c.args.line c.args.before.now c.in-Ok.note c.in-Ok.ensures.painted
    ∙ ap (λ (n : KeptNote). Ok n) (sym c.new.ensures))

pub returns-in-Err-clause-refused : goal.returns-in-Err-clause-refused
returns-in-Err-clause-refused g c =
    let p = c.syntax.inside in
    let v : SyntaxParts = record { items = p.items; clusters = p.clusters; groups = p.groups; programs = p.programs; keywords = p.keywords; links = p.links; sets = p.sets } in
    let t = g.T.Lines.lines c.args.text.now in
    let P : SyntaxParts → Type 0 = λ v. RefusesLine c.args.line (line_note (syntax_rules v c.args.self.now.budget) t c.args.line (top_first c.args.before.now)) c.at_line.result in
    let Q : EditError → Type 0 = λ e. RefusesLine c.args.line (line_note (syntax_rules v c.args.self.now.budget) t c.args.line (top_first c.args.before.now)) e in
    subst P c.syntax.view_is
    (subst Q (sym c.at_line.ensures) (refused_as (syntax_rules v c.args.self.now.budget) t c.args.line (top_first c.args.before.now) c.in-Err.error c.in-Err.ensures.painted))

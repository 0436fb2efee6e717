use Rattle.std.proofs.Common.{arith, sym, ap, subst, refl, ◌∙◌, ◌≡◌, ℕ, List, length, Ok}
use Rattle.std.proofs.lemmas.Result.{err_from_is_err_and}
use Rattle.paint_reuse.specs.Change.{replaced}
use Rattle.paint_reuse.specs.Kept.{KeptNote, text_notes}
use Rattle.paint_reuse.specs.Reuse.{lines_to_paint}
use Rattle.paint_reuse.proofs.NothingLaws.{no_change, no_report}
use Rattle.paint_reuse.proofs.Walks.{kept}
use Rattle.text_buffer.specs.TextSeen.{TextSeen}
use Rattle.paint_reuse.specs.Work.{kept_spans}
use Rattle.state_cache.specs.Edits.{changed_text, patched, to_paint_in}
use Rattle.state_cache.specs.PaintedText.{IsPaintingOf, IsRefusal, PaintedText}
use Rattle.state_cache.specs.Refusals.{RefusesAs}
use Rattle.state_cache.specs.Spans.{syntax_rules, text_spans}
use Rattle.state_cache.proofs.KeptLaws.{most_as, put_in_as, replaced_as, spans}
use Rattle.state_cache.proofs.RefusalLaws.{of_painting}
use Rattle.state_cache.proofs.painted.Painted.edit.Goals as goal

pub returns-then-is_empty-clause-painted : goal.returns-then-is_empty-clause-painted
returns-then-is_empty-clause-painted g c =
    let p = c.self.inside in
    let r = syntax_rules p.syntax p.budget in
    let same : replaced c.args.self.now.text c.args.a c.args.b c.args.new ≡ c.args.self.now.text = no_change c.args.self.now.text c.args.a c.args.b c.args.new c.if-a-b.true c.if-is_empty.ensures in
    let P : PaintedText → Type 0 = λ v. text_spans v.syntax v.budget v.text ≡ Ok v.spans in
    record {
      syntax_is = refl;
      text_is = sym same;
      budget_is = refl;
      spans_are = ap (text_spans c.args.self.now.syntax c.args.self.now.budget) same ∙ subst P c.self.view_is (spans r p.text.lines p.notes.0 c.self.invariant.noted.painted);
    }

pub returns-then-is_empty-clause-told : goal.returns-then-is_empty-clause-told
returns-then-is_empty-clause-told g c =
    c.new-then-is_empty.ensures ∙ sym (no_report c.args.self.now.spans c.args.a c.args.b c.args.new c.if-a-b.true c.if-is_empty.ensures)

pub returns-in_err-made-clause-refused : goal.returns-in_err-made-clause-refused
returns-in_err-made-clause-refused g c =
    let p = c.self.inside in
    let r = syntax_rules p.syntax p.budget in
    let n = c.new-2.ensures in
    let lines = ap (λ (t : TextSeen). t.lines) n.text ∙ c.make_room.ensures.lines in
    let T : changed_text c.new-2.result ≡ replaced p.text.lines c.args.a c.args.b c.args.new = replaced_as p.text.lines c.new-2.result.text.now.lines c.args.new c.new-2.result.new.now c.args.a c.new-2.result.a c.args.b c.new-2.result.b lines n.first n.end n.new in
    let q = err_from_is_err_and c.from_residual-in_err-made.result c.from_residual-in_err-made.ensures.1 in
    let P : PaintedText → Type 0 = λ v. IsRefusal (text_spans v.syntax v.budget (replaced v.text c.args.a c.args.b c.args.new)) c.in_err-made.field-0.0 in
    rw (q.1, q.2) (subst P c.self.view_is
    (of_painting r (replaced p.text.lines c.args.a c.args.b c.args.new) c.in_err-made.field-0.0
    (subst (λ (t : List (List ℕ)). RefusesAs (text_notes r t) c.in_err-made.field-0.0) T c.in_err-made.ensures.refused)))

pub returns-in_err-made-clause-steps : goal.returns-in_err-made-clause-steps
returns-in_err-made-clause-steps g c =
    let p = c.self.inside in
    let r = syntax_rules p.syntax p.budget in
    let n = c.new-2.ensures in
    let lines = ap (λ (t : TextSeen). t.lines) n.text ∙ c.make_room.ensures.lines in
    let P : PaintedText → Type 0 = λ v. to_paint_in r c.make_room.new.notes.0 c.new-2.result ≡ lines_to_paint (syntax_rules v.syntax v.budget) v.text c.args.a c.args.b c.args.new in
    let most = subst P c.self.view_is (most_as r p.text.lines c.new-2.result.text.now.lines c.args.new c.new-2.result.new.now p.notes.0 c.make_room.new.notes.0 c.args.a c.new-2.result.a c.args.b c.new-2.result.b c.self.invariant.noted.painted lines c.make_room.ensures.notes n.first n.end n.new) in
    omega (arith, c.in_err-made.ensures.steps, most)

pub commit-requires-clause-full : goal.commit-requires-clause-full
commit-requires-clause-full g c =
    let p = c.self.inside in
    ap length c.make_room.ensures.notes ∙ (kept (syntax_rules p.syntax p.budget) p.text.lines p.notes.0 c.self.invariant.noted.painted).full ∙ sym (ap length c.make_room.ensures.lines)

pub returns-clause-painted : goal.returns-clause-painted
returns-clause-painted g c =
    let p = c.self.inside in
    let r = syntax_rules p.syntax p.budget in
    let n = c.new-2.ensures in
    let made = c.in_ok-made.made in
    let lines = ap (λ (t : TextSeen). t.lines) n.text ∙ c.make_room.ensures.lines in
    let T : changed_text c.new-2.result ≡ replaced p.text.lines c.args.a c.args.b c.args.new = replaced_as p.text.lines c.new-2.result.text.now.lines c.args.new c.new-2.result.new.now c.args.a c.new-2.result.a c.args.b c.new-2.result.b lines n.first n.end n.new in
    let notes : text_notes r (replaced p.text.lines c.args.a c.args.b c.args.new) ≡ Ok c.commit.new.notes.0 =
    ap (text_notes r) (sym T) ∙ c.in_ok-made.ensures.made.painted
    ∙ ap (λ (l : List KeptNote). Ok l) (put_in_as (patched c.make_room.new.notes.0 made.patches) made.fresh c.args.a c.new-2.result.a c.args.b c.new-2.result.b n.first n.end ∙ sym c.commit.ensures.notes) in
    let V : PaintedText = record { syntax = p.syntax; text = c.commit.new.text.lines; budget = p.budget; spans = kept_spans c.commit.new.notes.0 } in
    let P : PaintedText → Type 0 = λ v. IsPaintingOf v.syntax (replaced v.text c.args.a c.args.b c.args.new) v.budget V in
    subst P c.self.view_is (record {
      syntax_is = refl;
      text_is = c.commit.ensures.lines ∙ ap (λ (t : List (List ℕ)). replaced t c.args.a c.args.b c.args.new) c.make_room.ensures.lines;
      budget_is = refl;
      spans_are = spans r (replaced p.text.lines c.args.a c.args.b c.args.new) c.commit.new.notes.0 notes;
    })

pub returns-clause-steps : goal.returns-clause-steps
returns-clause-steps g c =
    let p = c.self.inside in
    let r = syntax_rules p.syntax p.budget in
    let n = c.new-2.ensures in
    let lines = ap (λ (t : TextSeen). t.lines) n.text ∙ c.make_room.ensures.lines in
    let P : PaintedText → Type 0 = λ v. to_paint_in r c.make_room.new.notes.0 c.new-2.result ≡ lines_to_paint (syntax_rules v.syntax v.budget) v.text c.args.a c.args.b c.args.new in
    let most = subst P c.self.view_is (most_as r p.text.lines c.new-2.result.text.now.lines c.args.new c.new-2.result.new.now p.notes.0 c.make_room.new.notes.0 c.args.a c.new-2.result.a c.args.b c.new-2.result.b c.self.invariant.noted.painted lines c.make_room.ensures.notes n.first n.end n.new) in
    omega (arith, c.in_ok-made.ensures.steps, most)

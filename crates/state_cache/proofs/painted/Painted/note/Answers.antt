use Rattle.std.proofs.Common.{arith, sym, ap, subst, ◌∙◌, Some, length}
use Rattle.paint_reuse.specs.Kept.{KeptNote, note_at, notes_from}
use Rattle.paint_reuse.proofs.Walks.{kept}
use Rattle.state_cache.specs.Notes.{IsNoteAt}
use Rattle.state_cache.specs.PaintedText.{PaintedText}
use Rattle.state_cache.specs.Spans.{syntax_rules}
use Rattle.state_cache.proofs.KeptLaws.{note_is, whole}
use Rattle.state_cache.proofs.painted.Painted.note.Goals as goal

pub get-requires : goal.get-requires
get-requires c =
    let p = c.self.inside in
    let all = kept (syntax_rules p.syntax p.budget) p.text.lines p.notes.0 c.self.invariant.noted.painted in
    omega (arith, all.full, c.requires, ap (λ (v : PaintedText). length v.text) c.self.view_is)

pub returns : goal.returns
returns c =
    let p = c.self.inside in
    let r = syntax_rules p.syntax p.budget in
    let notes = p.notes.0 in
    let painted = c.self.invariant.noted.painted in
    let P : PaintedText → Type 0 = λ v. IsNoteAt (syntax_rules v.syntax v.budget) v.text c.args.line c.note.result.now in
    subst P c.self.view_is (record {
      notes = notes_from 0 notes;
      painting = whole r p.text.lines notes painted;
      noted = note_is r p.text.lines notes c.args.line c.get.result.now (sym c.get.ensures)
          ∙ ap (λ (n : KeptNote). Some (note_at c.args.line n)) (sym c.note.ensures);
    })

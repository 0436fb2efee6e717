use Rattle.std.proofs.Common.{sym, ap, subst, set, ◌∙◌, ◌≡◌}
use Rattle.std.proofs.lemmas.List.Elements.{All-push}
use Rattle.state_cache.specs.declared.edit.Patch.{Patch}
use Rattle.state_cache.specs.Notes.{NoteFits}
use Rattle.paint_reuse.proofs.Patches.{went_kept, went_painted}
use Rattle.state_stack.specs.TopFirst.{top_first}
use Rattle.state_cache.specs.Edits.{PatchesFit, change_by, items_of, old_by, patched, rules_of, state_at, text_of}
use Rattle.state_cache.proofs.PatchLaws.{patched_push}
use Rattle.state_cache.proofs.edit.Edit.old_line.Goals as goal

pub returns-in-None-clause-went : goal.returns-in-None-clause-went
returns-in-None-clause-went g c =
    let e = c.args.self.now in
    let w = rw c.in-None.is at c.in_ok-paint_or_keep.ensures.kept in
    went_kept (rules_of e) (text_of e) (old_by e) (change_by e) c.args.j c.args.k (state_at e c.args.given c.args.j) (patched (old_by e) c.args.done.now.patches) c.args.done.now.report w.0 c.requires.below w.1 c.requires.was w.2

pub returns-clause-went : goal.returns-clause-went
returns-clause-went g c =
    let e = c.args.self.now in
    let N = old_by e in
    let old = c.args.done.now in
    let note = c.in-Some.note in
    let w = rw c.in-Some.is at c.in_ok-paint_or_keep.ensures.kept in
    let p : patched N c.put.new.self.patches ≡ set (patched N old.patches) c.args.j note =
    ap (patched N) c.in_ok-put-in-Some.ensures.patches ∙ patched_push N old.patches (record { line = c.args.j; note = note }) in
    went_painted (rules_of e) (text_of e) N (change_by e) c.args.j c.args.k (state_at e c.args.given c.args.j)
    (patched N old.patches) (patched N c.put.new.self.patches) old.report c.put.new.self.report note c.get.result.now (top_first c.in_ok-put-in-Some.field-0)
    p c.requires.below (sym c.get.ensures) c.requires.was w c.in_ok-put-in-Some.ensures.told c.in_ok-put-in-Some.ensures.next

pub returns-clause-fits : goal.returns-clause-fits
returns-clause-fits g c =
    let fits = rw c.in-Some.is at c.in_ok-paint_or_keep.ensures.fits in
    c.in_ok-put-in-Some.ensures.fits (items_of c.args.self.now) fits.after

pub returns-clause-patches : goal.returns-clause-patches
returns-clause-patches g c =
    let n = items_of c.args.self.now in
    let fits = rw c.in-Some.is at c.in_ok-paint_or_keep.ensures.fits in
    subst (PatchesFit n) (sym c.in_ok-put-in-Some.ensures.patches)
    (All-push (λ (p : Patch). NoteFits n p.note) c.args.done.now.patches (record { line = c.args.j; note = c.in-Some.note }) c.requires.patches fits)

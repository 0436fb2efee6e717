use Rattle.std.proofs.Common.{arith, sym, ap, subst, ◌∙◌, ◌≡◌}
use Rattle.std.proofs.lemmas.Result.{err_from_is_err_and}
use Rattle.paint_rules.specs.States.{State}
use Rattle.paint_reuse.specs.Kept.{line_note}
use Rattle.paint_reuse.specs.Reuse.{one_unless}
use Rattle.paint_reuse.specs.Work.{state_by}
use Rattle.paint_reuse.proofs.Steps.{before_is_old, kept_by_test}
use Rattle.state_stack.specs.TopFirst.{top_first}
use Rattle.paint_rules.specs.States.{StateFits}
use Rattle.state_cache.specs.Notes.{NoteFits}
use Rattle.state_cache.proofs.ReachLaws.{at_of_all}
use Rattle.state_cache.specs.Edits.{given_by, items_of, lines_of, old_by, rules_of, state_at, text_of}
use Rattle.state_cache.specs.Refusals.{RefusesLine}
use Rattle.state_cache.proofs.edit.Edit.paint_or_keep.Goals as goal

pub returns-then-is_reusable-clause-kept : goal.returns-then-is_reusable-clause-kept
returns-then-is_reusable-clause-kept g c =
    let e = c.args.self.now in
    let s = e.changed in
    kept_by_test (rules_of e) c.requires.sound.local (lines_of e) (old_by e) c.requires.sound.painted s.a s.b s.new.now c.args.k c.args.j (given_by c.args.given.now) s.ordered (omega (arith, s.whole)) c.requires.was c.requires.inside
    (sym c.is_reusable.ensures ∙ c.if-is_reusable.true)

pub returns-in_err-painted-clause-refused : goal.returns-in_err-painted-clause-refused
returns-in_err-painted-clause-refused g c =
    let e = c.args.self.now in
    let o = before_is_old (rules_of e) c.requires.sound.local (lines_of e) (old_by e) c.requires.sound.painted c.args.j c.get.result.now (sym c.get.ensures) in
    let at : top_first c.state_or-before.result.now ≡ state_at e c.args.given.now c.args.j = c.state_or-before.ensures.is ∙ ap (state_by (given_by c.args.given.now)) (c.state_before.ensures ∙ o) in
    let p = err_from_is_err_and c.from_residual.result c.from_residual.ensures.1 in
    rw (p.1, p.2) (subst (λ (s : State). RefusesLine c.args.k (line_note (rules_of e) (text_of e) c.args.k s) c.in_err-painted.field-0.0) at c.in_err-painted.ensures.refused)

pub returns-clause-kept : goal.returns-clause-kept
returns-clause-kept g c =
    let e = c.args.self.now in
    let o = before_is_old (rules_of e) c.requires.sound.local (lines_of e) (old_by e) c.requires.sound.painted c.args.j c.get.result.now (sym c.get.ensures) in
    let at : top_first c.state_or-before.result.now ≡ state_at e c.args.given.now c.args.j = c.state_or-before.ensures.is ∙ ap (state_by (given_by c.args.given.now)) (c.state_before.ensures ∙ o) in
    ap (line_note (rules_of e) (text_of e) c.args.k) (sym at) ∙ c.in_ok-painted.ensures.noted

pub returns-in_err-painted-clause-steps : goal.returns-in_err-painted-clause-steps
returns-in_err-painted-clause-steps g c =
    omega (arith, c.in_err-painted.ensures.steps, ap one_unless (sym c.is_reusable.ensures ∙ c.if-is_reusable.false))

pub returns-clause-steps : goal.returns-clause-steps
returns-clause-steps g c =
    omega (arith, c.in_ok-painted.ensures.steps, ap one_unless (sym c.is_reusable.ensures ∙ c.if-is_reusable.false))

pub paint-requires-clause-fits : goal.paint-requires-clause-fits
paint-requires-clause-fits g c =
    let e = c.args.self.now in
    let n = items_of e in
    let fits = at_of_all (NoteFits n) (old_by e) c.args.j c.get.result.now c.requires.sound.fit (sym c.get.ensures) in
    c.state_or-before.ensures.fits n c.requires.fits (subst (StateFits n) (sym c.state_before.ensures) fits.before)

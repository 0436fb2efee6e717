use Rattle.std.proofs.Common.{arith, sym, ap, subst, ◌∙◌, ◌≡◌, ◌-◌, ℕ, suc}
use Rattle.std.proofs.lemmas.Result.{IfOk-weaker}
use Rattle.paint_rules.specs.States.{StateFits, empty_state, next_line}
use Rattle.paint_reuse.specs.Work.{before_at}
use Rattle.paint_reuse.proofs.Patches.{before_more}
use Rattle.paint_reuse.proofs.Steps.{before_is_old}
use Rattle.state_stack.specs.declared.state.State.{State}
use Rattle.state_stack.specs.TopFirst.{top_first}
use Rattle.state_cache.specs.Edits.{items_of, lines_of, old_by, rules_of}
use Rattle.state_cache.specs.Notes.{NoteFits}
use Rattle.state_cache.proofs.ReachLaws.{at_of_all}
use Rattle.state_cache.proofs.edit.Edit.old_state_at.Goals as goal

pub returns-then-j-len-clause-is : goal.returns-then-j-len-clause-is
returns-then-j-len-clause-is c =
    let e = c.args.self.now in
    let o = before_is_old (rules_of e) c.requires.sound.local (lines_of e) (old_by e) c.requires.sound.painted c.args.j c.get.result.now (sym c.get.ensures) in
    IfOk-weaker c.copy.result (λ (s : State). s ≡ c.state_before.result.now) (λ (s : State). top_first s ≡ before_at empty_state (old_by e) c.args.j)
    (λ s h. ap top_first h ∙ c.state_before.ensures ∙ o) c.copy.ensures

pub returns-then-j-len-clause-fits : goal.returns-then-j-len-clause-fits
returns-then-j-len-clause-fits c =
    let e = c.args.self.now in
    let fits = at_of_all (NoteFits (items_of e)) (old_by e) c.args.j c.get.result.now c.requires.sound.fit (sym c.get.ensures) in
    IfOk-weaker c.copy.result (λ (s : State). s ≡ c.state_before.result.now) (λ (s : State). StateFits (items_of e) (top_first s))
    (λ s h. subst (StateFits (items_of e)) (sym (ap top_first h ∙ c.state_before.ensures)) fits.before) c.copy.ensures

pub returns-clause-is : goal.returns-clause-is
returns-clause-is c =
    let e = c.args.self.now in
    let j : suc (c.args.j - 1) ≡ c.args.j = omega arith in
    let next = before_more empty_state (old_by e) (c.args.j - 1) c.get-2.result.now (sym c.get-2.ensures) in
    IfOk-weaker c.next.result (λ (s : State). top_first s ≡ next_line c.get-2.result.now.after) (λ (s : State). top_first s ≡ before_at empty_state (old_by e) c.args.j)
    (λ s h. h ∙ sym next ∙ ap (before_at empty_state (old_by e)) j) c.next.ensures.next

pub returns-clause-fits : goal.returns-clause-fits
returns-clause-fits c =
    let e = c.args.self.now in
    let fits = at_of_all (NoteFits (items_of e)) (old_by e) (c.args.j - 1) c.get-2.result.now c.requires.sound.fit (sym c.get-2.ensures) in
    IfOk-weaker c.next.result (λ (s : State). (n : ℕ) → StateFits n c.get-2.result.now.after → StateFits n (top_first s)) (λ (s : State). StateFits (items_of e) (top_first s))
    (λ s h. h (items_of e) fits.after) c.next.ensures.fits

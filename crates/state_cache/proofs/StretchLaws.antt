-- Steps of the walk over old lines.
use Rattle.std.proofs.Common.{arith, subst, ◌∙◌, ◌≡◌, ◌<◌, ◌≤◌, ◌+◌, ◌-◌, ℕ, suc, take, drop, length, refl, Option}
use Rattle.std.proofs.lemmas.List.{append-nil}
use Rattle.paint_rules.specs.Line.{Refusal}
use Rattle.paint_reuse.specs.Kept.{line_note}
use Rattle.paint_reuse.specs.Reuse.{one_unless}
use Rattle.paint_reuse.specs.Work.{Along, OldLines, Over, Passes, Went, reusable, work}
use Rattle.paint_reuse.proofs.Skips.{pass}
use Rattle.paint_reuse.proofs.Works.{along_more, count_at, stop_at}
use Rattle.state_stack.specs.declared.state.State.{State}
use Rattle.state_cache.specs.declared.edit.Done.{Done}
use Rattle.state_cache.specs.declared.edit.Edit.{Edit}
use Rattle.state_cache.specs.declared.edit.Stretch.{Stretch}
use Rattle.state_cache.specs.declared.refusal.EditError.{EditError}
use Rattle.state_cache.specs.Edits.{GivenFits, GoesOn, IsSoundEdit, PatchesFit, change_by, given_by, items_of, lines_of, old_by, patched, rules_of, state_at, stretch_work, text_of}
use Rattle.state_cache.specs.Refusals.{RefusesAs, RefusesLine}
use Rattle.state_cache.proofs.RefusalLaws.{of_line}

module _ (edit : Edit) (sound : IsSoundEdit edit) (stretch : Stretch) (given : Option State) (made0 : Done) (steps0 : ℕ) where
  abbrev Goes : ℕ → Option State → Done → ℕ → Type 0
  Goes j state made steps = GoesOn edit stretch given made0 steps0 j state made steps

  pub begins : stretch.from ≤ stretch.to → drop stretch.from (patched (old_by edit) made0.patches) ≡ drop stretch.from (old_by edit) → GivenFits (items_of edit) given → PatchesFit (items_of edit) made0.patches → Goes stretch.from given made0 steps0
  begins ordered below fits patches =
      let k : stretch.first ≡ stretch.first + (stretch.from - stretch.from) = omega arith in
      record {
        from = omega arith;
        to = ordered;
        along = subst (λ (l : ℕ). Along (stretch_work edit stretch given) (work (rules_of edit) (text_of edit) (old_by edit) (change_by edit) l (stretch.to - stretch.from) (state_at edit given stretch.from)) (take stretch.from (patched (old_by edit) made0.patches)) (take stretch.from (patched (old_by edit) made0.patches)) made0.report made0.report steps0 steps0) k
            (record { notes = refl; report = refl; count = omega arith; end = refl });
        below = below;
        fits = fits;
        patches = patches;
      }

  module _ (were : OldLines (change_by edit) stretch.first stretch.from stretch.to) (inside : stretch.to ≤ length (old_by edit)) (j : ℕ) (state : Option State) (made : Done) (steps : ℕ) (goes : Goes j state made steps) where
    -- lines that stay are passed
    pub passes : (next : ℕ) → j ≤ next → next ≤ stretch.to → Passes (given_by state) (change_by edit) (old_by edit) j next → Goes next state made steps
    passes next low high clear =
        let s = edit.changed in
        let at = pass (rules_of edit) sound.local (lines_of edit) (old_by edit) sound.painted s.a s.b s.new.now s.ordered (omega (arith, s.whole)) stretch.first stretch.from stretch.to were inside
        (stretch_work edit stretch given) (take stretch.from (patched (old_by edit) made0.patches)) (patched (old_by edit) made.patches) made0.report made.report steps0 steps
        (given_by state) j next goes.from low high clear (record { along = goes.along; below = goes.below }) in
        record { from = omega (arith, goes.from); to = high; along = at.along; below = at.below; fits = goes.fits; patches = goes.patches }

    module _ (within : j < stretch.to) where
      rest : stretch.to - j ≡ suc (stretch.to - (j + 1))
      rest = omega arith

      -- a line was gone over
      pub further : (after : Option State) (more : Done) (steps' : ℕ) → Went (rules_of edit) (text_of edit) (old_by edit) (change_by edit) j (stretch.first + (j - stretch.from)) (state_at edit state j) (patched (old_by edit) made.patches) (patched (old_by edit) more.patches) made.report more.report (given_by after) → GivenFits (items_of edit) after → PatchesFit (items_of edit) more.patches → steps' ≤ steps + one_unless (reusable (old_by edit) (change_by edit) (stretch.first + (j - stretch.from)) (state_at edit state j)) → Goes (j + 1) after more steps'
      further after more steps' went fits patches few =
          let j1 : j + 1 ≡ suc j = omega arith in
          let k : stretch.first + (j + 1 - stretch.from) ≡ suc (stretch.first + (j - stretch.from)) = omega (arith, goes.from) in
          record {
            from = omega (arith, goes.from);
            to = omega arith;
            along = along_more (rules_of edit) (text_of edit) (old_by edit) (change_by edit) (stretch_work edit stretch given) j (j + 1) (stretch.first + (j - stretch.from)) (stretch.first + (j + 1 - stretch.from)) (stretch.to - j) (stretch.to - (j + 1)) (state_at edit state j) (given_by after) (patched (old_by edit) made.patches) (patched (old_by edit) more.patches) (take stretch.from (patched (old_by edit) made0.patches)) made0.report made.report more.report steps0 steps steps' j1 k rest goes.along went few;
            below = rw j1 went.rest;
            fits = fits;
            patches = patches;
          }

      -- a line was refused
      pub refused : (e : EditError) → RefusesLine (stretch.first + (j - stretch.from)) (line_note (rules_of edit) (text_of edit) (stretch.first + (j - stretch.from)) (state_at edit state j)) e → RefusesAs (stretch_work edit stretch given).end e
      refused e h =
          of_line (stretch.first + (j - stretch.from)) (line_note (rules_of edit) (text_of edit) (stretch.first + (j - stretch.from)) (state_at edit state j)) (stretch_work edit stretch given).end e
          (λ (x : Refusal) is. stop_at (rules_of edit) (text_of edit) (old_by edit) (change_by edit) (stretch_work edit stretch given) (stretch.first + (j - stretch.from)) (stretch.to - j) (stretch.to - (j + 1)) (state_at edit state j) _ _ _ _ steps0 steps x rest goes.along is) h

      pub counts : (steps' : ℕ) → steps' ≤ steps + one_unless (reusable (old_by edit) (change_by edit) (stretch.first + (j - stretch.from)) (state_at edit state j)) → steps' ≤ steps0 + (stretch_work edit stretch given).count
      counts steps' few = count_at (rules_of edit) (text_of edit) (old_by edit) (change_by edit) (stretch_work edit stretch given) (stretch.first + (j - stretch.from)) (stretch.to - j) (stretch.to - (j + 1)) (state_at edit state j) _ _ _ _ steps0 steps steps' rest goes.along few

  -- all were gone over
  pub over : (j : ℕ) (state : Option State) (made : Done) (steps : ℕ) → stretch.to ≤ j → Goes j state made steps → Over (stretch_work edit stretch given) (old_by edit) stretch.from stretch.to (patched (old_by edit) made0.patches) (patched (old_by edit) made.patches) made0.report made.report (given_by state)
  over j state made steps high goes =
      let at : j ≡ stretch.to = omega (arith, goes.to) in
      let none : stretch.to - stretch.to ≡ 0 = omega arith in
      over_at (subst (λ (i : ℕ). Goes i state made steps) at goes)
    where
      over_at : Goes stretch.to state made steps → Over (stretch_work edit stretch given) (old_by edit) stretch.from stretch.to (patched (old_by edit) made0.patches) (patched (old_by edit) made.patches) made0.report made.report (given_by state)
      over_at g = over_by (stretch.to - stretch.to) (omega arith) g.along g.below
        where
          over_by : (n : ℕ) → n ≡ 0 → Along (stretch_work edit stretch given) (work (rules_of edit) (text_of edit) (old_by edit) (change_by edit) (stretch.first + (stretch.to - stretch.from)) n (state_at edit state stretch.to)) (take stretch.from (patched (old_by edit) made0.patches)) (take stretch.to (patched (old_by edit) made.patches)) made0.report made.report steps0 steps → drop stretch.to (patched (old_by edit) made.patches) ≡ drop stretch.to (old_by edit) → Over (stretch_work edit stretch given) (old_by edit) stretch.from stretch.to (patched (old_by edit) made0.patches) (patched (old_by edit) made.patches) made0.report made.report (given_by state)
          over_by n none a below =
              let b = subst (λ (m : ℕ). Along (stretch_work edit stretch given) (work (rules_of edit) (text_of edit) (old_by edit) (change_by edit) (stretch.first + (stretch.to - stretch.from)) m (state_at edit state stretch.to)) (take stretch.from (patched (old_by edit) made0.patches)) (take stretch.to (patched (old_by edit) made.patches)) made0.report made.report steps0 steps) none a in
              record {
                made = b.notes ∙ append-nil (take stretch.to (patched (old_by edit) made.patches));
                rest = below;
                tells = b.report ∙ append-nil made.report;
                end = b.end;
              }

  pub counted : (j : ℕ) (state : Option State) (made : Done) (steps : ℕ) → Goes j state made steps → steps ≤ steps0 + (stretch_work edit stretch given).count
  counted j state made steps goes = omega (arith, goes.along.count)

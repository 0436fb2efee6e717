-- Steps of the walk over new lines.
use Rattle.std.proofs.Common.{arith, subst, sym, ◌∙◌, ◌≡◌, ◌<◌, ◌≤◌, ◌+◌, ◌-◌, ℕ, suc, List, [], length, refl, None}
use Rattle.std.proofs.lemmas.List.{append-nil}
use Rattle.std.specs.List.{All}
use Rattle.paint_rules.specs.Line.{Refusal}
use Rattle.paint_rules.specs.States.{StateFits}
use Rattle.paint_reuse.specs.Change.{old_line}
use Rattle.paint_reuse.specs.Kept.{KeptNote, line_note}
use Rattle.paint_reuse.specs.Reuse.{one_unless}
use Rattle.paint_reuse.specs.Work.{Along, NewOver, NewWent, reusable, work}
use Rattle.paint_reuse.proofs.Places.{is_new}
use Rattle.paint_reuse.proofs.Works.{along_new, count_at, stop_at}
use Rattle.state_stack.specs.declared.state.State.{State}
use Rattle.state_stack.specs.TopFirst.{top_first}
use Rattle.state_cache.specs.declared.edit.Edit.{Edit}
use Rattle.state_cache.specs.declared.refusal.EditError.{EditError}
use Rattle.state_cache.specs.Edits.{GoesOnNew, change_by, items_of, new_work, old_by, rules_of, text_of}
use Rattle.state_cache.specs.Notes.{NoteFits}
use Rattle.state_cache.specs.Refusals.{RefusesAs, RefusesLine}
use Rattle.state_cache.proofs.RefusalLaws.{of_line}

module _ (edit : Edit) (given : State) (report0 : List ℕ) (steps0 : ℕ) where
  abbrev Goes : ℕ → State → List KeptNote → List ℕ → ℕ → Type 0
  Goes i state fresh report steps = GoesOnNew edit given report0 steps0 i state fresh report steps

  pub begins : (fresh : List KeptNote) → fresh ≡ [] → StateFits (items_of edit) (top_first given) → All (NoteFits (items_of edit)) fresh → Goes 0 given fresh report0 steps0
  begins fresh none fits all =
      let k : edit.changed.a ≡ edit.changed.a + 0 = omega arith in
      let n : length edit.changed.new.now ≡ length edit.changed.new.now - 0 = omega arith in
      record {
        along = subst (λ (f : List KeptNote). Along (new_work edit given) (work (rules_of edit) (text_of edit) (old_by edit) (change_by edit) (edit.changed.a + 0) (length edit.changed.new.now - 0) (top_first given)) [] f report0 report0 steps0 steps0) (sym none)
            (subst (λ (l : ℕ). Along (new_work edit given) (work (rules_of edit) (text_of edit) (old_by edit) (change_by edit) l (length edit.changed.new.now - 0) (top_first given)) [] [] report0 report0 steps0 steps0) k
            (subst (λ (m : ℕ). Along (new_work edit given) (work (rules_of edit) (text_of edit) (old_by edit) (change_by edit) edit.changed.a m (top_first given)) [] [] report0 report0 steps0 steps0) n
            (record { notes = refl; report = refl; count = omega arith; end = refl })));
        fits = fits;
        fresh = all;
      }

  module _ (i : ℕ) (state : State) (fresh : List KeptNote) (report : List ℕ) (steps : ℕ) (within : i < length edit.changed.new.now) (goes : Goes i state fresh report steps) where
    rest : length edit.changed.new.now - i ≡ suc (length edit.changed.new.now - (i + 1))
    rest = omega arith

    pub is_fresh : old_line (change_by edit) (edit.changed.a + i) ≡ None
    is_fresh = is_new (change_by edit) (edit.changed.a + i) (omega arith) (omega arith)

    -- a line was painted
    pub further : (after : State) (more : List KeptNote) (told : List ℕ) (steps' : ℕ) → NewWent (rules_of edit) (text_of edit) (edit.changed.a + i) (top_first state) fresh more report told (top_first after) → StateFits (items_of edit) (top_first after) → All (NoteFits (items_of edit)) more → steps' ≤ steps + one_unless (reusable (old_by edit) (change_by edit) (edit.changed.a + i) (top_first state)) → Goes (i + 1) after more told steps'
    further after more told steps' went fits all few =
        let k : edit.changed.a + (i + 1) ≡ suc (edit.changed.a + i) = omega arith in
        record {
          along = along_new (rules_of edit) (text_of edit) (old_by edit) (change_by edit) (new_work edit given) (edit.changed.a + i) (edit.changed.a + (i + 1)) (length edit.changed.new.now - i) (length edit.changed.new.now - (i + 1)) (top_first state) (top_first after) [] fresh more report0 report told steps0 steps steps' k rest goes.along is_fresh went few;
          fits = fits;
          fresh = all;
        }

    -- a line was refused
    pub refused : (e : EditError) → RefusesLine (edit.changed.a + i) (line_note (rules_of edit) (text_of edit) (edit.changed.a + i) (top_first state)) e → RefusesAs (new_work edit given).end e
    refused e h =
        of_line (edit.changed.a + i) (line_note (rules_of edit) (text_of edit) (edit.changed.a + i) (top_first state)) (new_work edit given).end e
        (λ (x : Refusal) is. stop_at (rules_of edit) (text_of edit) (old_by edit) (change_by edit) (new_work edit given) (edit.changed.a + i) (length edit.changed.new.now - i) (length edit.changed.new.now - (i + 1)) (top_first state) _ _ _ _ steps0 steps x rest goes.along is) h

    pub counts : (steps' : ℕ) → steps' ≤ steps + one_unless (reusable (old_by edit) (change_by edit) (edit.changed.a + i) (top_first state)) → steps' ≤ steps0 + (new_work edit given).count
    counts steps' few = count_at (rules_of edit) (text_of edit) (old_by edit) (change_by edit) (new_work edit given) (edit.changed.a + i) (length edit.changed.new.now - i) (length edit.changed.new.now - (i + 1)) (top_first state) _ _ _ _ steps0 steps steps' rest goes.along few

  -- all were painted
  pub over : (i : ℕ) (state : State) (fresh : List KeptNote) (report : List ℕ) (steps : ℕ) → length edit.changed.new.now ≤ i → Goes i state fresh report steps → NewOver (new_work edit given) fresh report0 report (top_first state)
  over i state fresh report steps high goes = over_by (length edit.changed.new.now - i) (omega arith) goes.along
    where
      over_by : (n : ℕ) → n ≡ 0 → Along (new_work edit given) (work (rules_of edit) (text_of edit) (old_by edit) (change_by edit) (edit.changed.a + i) n (top_first state)) [] fresh report0 report steps0 steps → NewOver (new_work edit given) fresh report0 report (top_first state)
      over_by n none a =
          let b = subst (λ (m : ℕ). Along (new_work edit given) (work (rules_of edit) (text_of edit) (old_by edit) (change_by edit) (edit.changed.a + i) m (top_first state)) [] fresh report0 report steps0 steps) none a in
          record {
            made = b.notes ∙ append-nil fresh;
            tells = b.report ∙ append-nil report;
            end = b.end;
          }

  pub counted : (i : ℕ) (state : State) (fresh : List KeptNote) (report : List ℕ) (steps : ℕ) → Goes i state fresh report steps → steps ≤ steps0 + (new_work edit given).count
  counted i state fresh report steps goes = omega (arith, goes.along.count)

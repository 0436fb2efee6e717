use Rattle.std.proofs.Common.{◌≡◌, ◌-◌, suc, [], ◌∷◌, ◌++◌, refl, sym, ap, ◌∙◌, subst, rules, arith, append-nil}
use Rattle.std.specs.Prelude.{true, false, Some, None, pos, take, drop, length}
use Rattle.syn_base.specs.Looked.{one_line}
use Rattle.syn_base.specs.declared.places.Place.{Place}
use Rattle.vim_pattern.specs.Shape.{Shape, one, seq, ahead}
use Rattle.pattern_items.specs.declared.atom.Atom.{Atom}
use Rattle.match_rules.specs.Ways.{Context as AnyContext, Way, IsPlaceOf, is_after, way_from}
use Rattle.pattern_match.proofs.TakenNotes.{no-fewer, note-at, notes-at, noted-back, nothing-more, nothing-there, take-whole}
use Rattle.pattern_match.specs.declared.ways.Note.{Note}
use Rattle.match_rules.specs.Attempt.{answer_from}
use Rattle.match_rules.specs.Marks.{Reach, Tick, followed}
use Rattle.match_rules.specs.Visits.{visits, noted, noted_external}
use Rattle.match_rules.proofs.MarkLaws.{followed-reach}
use Rattle.pattern_match.specs.Contexts.{context_in}
use Rattle.pattern_match.specs.Steps.{shape_of, atom_of}
use Rattle.pattern_match.specs.Glance.{GoesOn, IsSeen, marks_behind, turns_behind, turn_of}
use Rattle.pattern_match.specs.declared.sight.Sight.{Sight}
use Rattle.pattern_match.specs.declared.task.Turns.{Turns}
use Rattle.pattern_match.specs.declared.sight.Saw.TheVariants.{Reached, InVain}
use Rattle.pattern_match.proofs.GlanceLaws.{atom_then, atom_vain, atom_stops, close_is, close_external_is, seen_later, seen_moved, seen_noted, seen_unless_reached, vain_then, first_stops, seen_as, seen_behind, either_is, optional_is, both_is, group_is, external_is, spent_is, forced_is, lazy_is, greedy_is, turn_is, ahead_is}
use Rattle.match_rules.specs.Atoms.{own_line}
use Rattle.match_rules.specs.Counts.{is_spent}
use Rattle.pattern_match.specs.Spending.{spent_times}
use Rattle.pattern_match.specs.Ways.{columns_on, way_noted, with_all, with_note}
use Rattle.pattern_match.specs.Glance.{stops_of, turns_of}
use Rattle.pattern_match.proofs.GlanceRuns.{greedy_seen, turns_less, way_on, lazy_stops, lazy_ends, lazy_misses, lazy_stays, lazy_goes, none_then, went_back, went_on, went_to}
use Rattle.pattern_match.specs.declared.vain.Vain.TheVariants.{Unsure}
use Rattle.pattern_match.proofs.VainLaws.{left-out-seen, refused-first, refused-seen}
use Rattle.pattern_match.proofs.glance.+look.Goals as goal

pub look_at-returns-in-Empty-clause-seen : goal.look_at-returns-in-Empty-clause-seen
look_at-returns-in-Empty-clause-seen g t c =
    let x : AnyContext = context_in (g.T.Lines.lines c.args.lines.now) c.args.context.now in
    λ w e. rw (c.in-Empty.is, append-nil) (c.go_on.ensures.seen w e)

pub look_at-returns-in-One-clause-seen : goal.look_at-returns-in-One-clause-seen
look_at-returns-in-One-clause-seen g t c =
    let x : AnyContext = context_in (g.T.Lines.lines c.args.lines.now) c.args.context.now in
    λ w e. rw c.in-One.is (c.look_at_one.ensures.seen w e)

pub look_at-returns-in-Seq-clause-seen : goal.look_at-returns-in-Seq-clause-seen
look_at-returns-in-Seq-clause-seen g t c =
    let x : AnyContext = context_in (g.T.Lines.lines c.args.lines.now) c.args.context.now in
    λ w e. rw c.in-Seq.is (rw (c.deref-in-Seq.ensures, c.deref.ensures) at c.look_at_both.ensures.seen w e)

pub look_at-returns-in-Or-clause-seen : goal.look_at-returns-in-Or-clause-seen
look_at-returns-in-Or-clause-seen g t c =
    let x : AnyContext = context_in (g.T.Lines.lines c.args.lines.now) c.args.context.now in
    λ w e. rw c.in-Or.is (rw (c.deref-in-Or-2.ensures, c.deref-in-Or.ensures) at c.look_at_either.ensures.seen w e)

pub look_at_other-returns-in-Optional-clause-seen : goal.look_at_other-returns-in-Optional-clause-seen
look_at_other-returns-in-Optional-clause-seen g t c =
    let x : AnyContext = context_in (g.T.Lines.lines c.args.lines.now) c.args.context.now in
    λ w e. rw c.in-Optional.is (rw c.deref.ensures at c.look_at_optional.ensures.seen w e)

pub look_at_other-returns-in-Group-clause-seen : goal.look_at_other-returns-in-Group-clause-seen
look_at_other-returns-in-Group-clause-seen g t c =
    let x : AnyContext = context_in (g.T.Lines.lines c.args.lines.now) c.args.context.now in
    let f = marks_behind x c.args.rest.now in
    let s : Shape = shape_of c.in-Group.part.value in
    λ w e. rw c.in-Group.is
    (seen_as w _ _ c.args.sight.now c.look_at.new.sight c.look_at.result
    (group_is x s c.in-Group.number w f)
    (subst (λ p. IsSeen w (followed (visits x s w) (λ v. followed (noted c.in-Group.number p v) f))
    c.args.sight.now c.look_at.new.sight c.look_at.result)
    (sym e) (rw c.deref-in-Group.ensures at c.look_at.ensures.seen w e)))

pub look_at_other-returns-in-External-clause-seen : goal.look_at_other-returns-in-External-clause-seen
look_at_other-returns-in-External-clause-seen g t c =
    let x : AnyContext = context_in (g.T.Lines.lines c.args.lines.now) c.args.context.now in
    let f = marks_behind x c.args.rest.now in
    let s : Shape = shape_of c.in-External.part.value in
    λ w e. rw c.in-External.is
    (seen_as w _ _ c.args.sight.now c.look_at-in-External.new.sight c.look_at-in-External.result
    (external_is x s c.in-External.number w f)
    (subst (λ p. IsSeen w (followed (visits x s w) (λ v. followed (noted_external c.in-External.number p v) f))
    c.args.sight.now c.look_at-in-External.new.sight c.look_at-in-External.result)
    (sym e) (rw c.deref-in-External.ensures at c.look_at-in-External.ensures.seen w e)))

pub look_at_other-returns-in-Repeat-clause-seen : goal.look_at_other-returns-in-Repeat-clause-seen
look_at_other-returns-in-Repeat-clause-seen g t c =
    let x : AnyContext = context_in (g.T.Lines.lines c.args.lines.now) c.args.context.now in
    λ w e. rw c.in-Repeat.is (rw (c.new-turns.ensures, c.deref-in-Repeat.ensures) at c.look_at_count.ensures.seen w e)

pub look_at_other-returns-in-Ahead-clause-seen : goal.look_at_other-returns-in-Ahead-clause-seen
look_at_other-returns-in-Ahead-clause-seen g t c =
    let x : AnyContext = context_in (g.T.Lines.lines c.args.lines.now) c.args.context.now in
    λ w e. rw c.in-Ahead.is (rw c.deref-in-Ahead.ensures at c.look_ahead.ensures.seen w e)

pub look_at_one-returns-in-Reached-clause-seen : goal.look_at_one-returns-in-Reached-clause-seen
look_at_one-returns-in-Reached-clause-seen g t c =
    let x : AnyContext = context_in (g.T.Lines.lines c.args.lines.now) c.args.context.now in
    λ w e.
    atom_then x (atom_of c.args.test.now) w (marks_behind x c.args.rest.now) c.args.sight.now
    c.look_at_atom.new.sight c.go_on.new.sight c.go_on.result
    (rw c.in-Reached.is at c.look_at_atom.ensures.seen w e) c.go_on.ensures.seen

pub look_at_one-returns-in-InVain-clause-seen : goal.look_at_one-returns-in-InVain-clause-seen
look_at_one-returns-in-InVain-clause-seen g t c =
    let x : AnyContext = context_in (g.T.Lines.lines c.args.lines.now) c.args.context.now in
    λ w e.
    atom_vain x (atom_of c.args.test.now) w (marks_behind x c.args.rest.now) c.args.sight.now
    c.look_at_atom.new.sight (rw c.in-InVain.is at c.look_at_atom.ensures.seen w e)

pub look_at_one-returns-in-TooFar-clause-seen : goal.look_at_one-returns-in-TooFar-clause-seen
look_at_one-returns-in-TooFar-clause-seen g t c =
    let x : AnyContext = context_in (g.T.Lines.lines c.args.lines.now) c.args.context.now in
    let old : Sight = c.args.sight.now in
    let same : c.look_at_atom.new.sight ≡ old = rw c.in-TooFar.is at c.look_at_atom.ensures.seen (way_from old.at) refl in
    λ w e. subst (λ s. IsSeen w (followed (visits x (one (atom_of c.args.test.now)) w) (marks_behind x c.args.rest.now)) s c.look_at_noting.new.sight c.look_at_noting.result) same
    (c.look_at_noting.ensures.seen w (e ∙ sym (ap (λ (s : Sight). s.at) same)))

pub look_at_noting-returns-clause-seen : goal.look_at_noting-returns-clause-seen
look_at_noting-returns-clause-seen g t c =
    let x : AnyContext = context_in (g.T.Lines.lines c.args.lines.now) c.args.context.now in
    let f = marks_behind x c.args.rest.now in
    let a : Atom = atom_of c.args.test.now in
    let old : Sight = c.args.sight.now in
    let mid : Sight = c.try_in_vain.new.sight in
    let note : Note = c.in-Some.note in
    let tried : mid ≡ record old { spent = spent_times old.spent 1 (one_line (pos old.at.line)) } = c.try_in_vain.ensures.tried c.if-not-try_in_vain.false in
    λ w e.
    let is : visits x (one a) w ≡ Tick (own_line w) ∷ Reach (with_note w note) ∷ [] = (rw c.in-Some.is at c.note_of.ensures) x w e in
    let k : followed (visits x (one a) w) f ≡ Tick (own_line w) ∷ f (with_note w note) = ap (λ m. followed m f) is ∙ ap (λ m. Tick (own_line w) ∷ m) (append-nil (f (with_note w note))) in
    let spent : mid ≡ record old { spent = spent_times old.spent 1 (own_line w) } = tried ∙ ap (λ (p : Place). record old { spent = spent_times old.spent 1 (one_line (pos p.line)) }) (sym e) in
    seen_behind w (followed (visits x (one a) w) f) (f (with_note w note)) old mid mid c.go_on_noting.new.sight c.go_on_noting.result refl (ap (λ (s : Sight). s.notes.items) tried)
    (ap (answer_from old.spent.cost old.spent.looked) k ∙ ap (λ (s : Sight). answer_from s.spent.cost s.spent.looked (f (with_note w note))) (sym spent))
    (c.go_on_noting.ensures.seen w (e ∙ sym (ap (λ (s : Sight). s.at) tried)))

pub look_at_both-returns-in-Reached-clause-seen : goal.look_at_both-returns-in-Reached-clause-seen
look_at_both-returns-in-Reached-clause-seen g t c =
    let x : AnyContext = context_in (g.T.Lines.lines c.args.lines.now) c.args.context.now in
    let f = marks_behind x c.args.rest.now in
    let b = shape_of c.args.second.now in
    λ w e. rw c.in-One.is
    (seen_as w _ _ c.args.sight.now c.look_at.new.sight c.look_at.result
    (both_is x (one (atom_of c.in-One.test)) b w f)
    (atom_then x (atom_of c.in-One.test) w (λ v. followed (visits x b v) f) c.args.sight.now
    c.look_at_atom.new.sight c.look_at.new.sight c.look_at.result
    (rw c.in-Reached.is at c.look_at_atom.ensures.seen w e) c.look_at.ensures.seen))

pub look_at_both-returns-in-InVain-clause-seen : goal.look_at_both-returns-in-InVain-clause-seen
look_at_both-returns-in-InVain-clause-seen g t c =
    let x : AnyContext = context_in (g.T.Lines.lines c.args.lines.now) c.args.context.now in
    let f = marks_behind x c.args.rest.now in
    let b = shape_of c.args.second.now in
    λ w e. rw c.in-One.is
    (seen_as w _ _ c.args.sight.now c.look_at_atom.new.sight InVain
    (both_is x (one (atom_of c.in-One.test)) b w f)
    (atom_vain x (atom_of c.in-One.test) w (λ v. followed (visits x b v) f) c.args.sight.now
    c.look_at_atom.new.sight (rw c.in-InVain.is at c.look_at_atom.ensures.seen w e)))

pub look_at_both-returns-in-TooFar-clause-seen : goal.look_at_both-returns-in-TooFar-clause-seen
look_at_both-returns-in-TooFar-clause-seen g t c =
    let x : AnyContext = context_in (g.T.Lines.lines c.args.lines.now) c.args.context.now in
    let old : Sight = c.args.sight.now in
    let same : c.look_at_atom.new.sight ≡ old = rw c.in-TooFar.is at c.look_at_atom.ensures.seen (way_from old.at) refl in
    λ w e. rw c.in-One.is (subst (λ s. IsSeen w (followed (visits x (seq (one (atom_of c.in-One.test)) (shape_of c.args.second.now)) w) (marks_behind x c.args.rest.now)) s c.look_at_noting_first.new.sight c.look_at_noting_first.result) same
    (c.look_at_noting_first.ensures.seen w (e ∙ sym (ap (λ (s : Sight). s.at) same))))

pub look_at_noting_first-returns-clause-seen : goal.look_at_noting_first-returns-clause-seen
look_at_noting_first-returns-clause-seen g t c =
    let x : AnyContext = context_in (g.T.Lines.lines c.args.lines.now) c.args.context.now in
    let f = marks_behind x c.args.rest.now in
    λ w e. seen_as w _ _ c.args.sight.now c.look_at_noting.new.sight c.look_at_noting.result
    (both_is x (one (atom_of c.args.test.now)) (shape_of c.args.second.now) w f)
    (c.look_at_noting.ensures.seen w e)

pub look_at_first-returns-clause-seen : goal.look_at_first-returns-clause-seen
look_at_first-returns-clause-seen g t c =
    let x : AnyContext = context_in (g.T.Lines.lines c.args.lines.now) c.args.context.now in
    let f = marks_behind x c.args.rest.now in
    λ w e. seen_as w _ _ c.args.sight.now c.look_at-2.new.sight c.look_at-2.result
    (both_is x (shape_of c.args.first.now) (shape_of c.args.second.now) w f)
    (c.look_at-2.ensures.seen w e)

pub look_at_first-returns-then-try_in_vain-clause-seen : goal.look_at_first-returns-then-try_in_vain-clause-seen
look_at_first-returns-then-try_in_vain-clause-seen g t c =
    let x : AnyContext = context_in (g.T.Lines.lines c.args.lines.now) c.args.context.now in
    let f = marks_behind x c.args.rest.now in
    let old : Sight = c.args.sight.now in
    let mid : Sight = c.try_in_vain.new.sight in
    let n = c.in-LeftOut.ticks in
    let tried : mid ≡ record old { spent = spent_times old.spent n (one_line (pos old.at.line)) } = c.try_in_vain.ensures.tried c.if-try_in_vain.true in
    λ w e.
    seen_as w _ _ old c.look_at.new.sight c.look_at.result
    (both_is x (shape_of c.args.first.now) (shape_of c.args.second.now) w f)
    (left-out-seen (visits x (shape_of c.args.first.now) w) (λ v. followed (visits x (shape_of c.args.second.now) v) f) w n old mid c.look_at.new.sight c.look_at.result
    (rw c.in-LeftOut.is at c.vain_at.ensures w e)
    (tried ∙ ap (λ (p : Place). record old { spent = spent_times old.spent n (one_line (pos p.line)) }) (sym e))
    (c.look_at.ensures.seen w (e ∙ sym (ap (λ (s : Sight). s.at) tried))))

pub look_at_first-returns-then-try_in_vain-2-clause-seen : goal.look_at_first-returns-then-try_in_vain-2-clause-seen
look_at_first-returns-then-try_in_vain-2-clause-seen g t c =
    let x : AnyContext = context_in (g.T.Lines.lines c.args.lines.now) c.args.context.now in
    let f = marks_behind x c.args.rest.now in
    let behind = λ (v : Way). followed (visits x (shape_of c.args.second.now) v) f in
    let old : Sight = c.args.sight.now in
    let mid : Sight = c.try_in_vain-in-Refused.new.sight in
    let n = c.in-Refused.ticks in
    let tried : mid ≡ record old { spent = spent_times old.spent n (one_line (pos old.at.line)) } = c.try_in_vain-in-Refused.ensures.tried c.if-try_in_vain-2.true in
    λ w e.
    seen_as w _ _ old mid InVain (both_is x (shape_of c.args.first.now) (shape_of c.args.second.now) w f)
    (refused-seen (followed (visits x (shape_of c.args.first.now) w) behind) w n old mid
    (refused-first n Unsure w (visits x (shape_of c.args.first.now) w) behind (rw c.in-Refused.is at c.vain_at.ensures w e) (λ v h. tt))
    (tried ∙ ap (λ (p : Place). record old { spent = spent_times old.spent n (one_line (pos p.line)) }) (sym e)))

pub look_at_branch-returns-in-One-clause-seen : goal.look_at_branch-returns-in-One-clause-seen
look_at_branch-returns-in-One-clause-seen g t c = λ w e. rw c.in-One.is (c.look_at_one.ensures.seen w e)

pub look_at_either-returns-in-InVain-clause-seen : goal.look_at_either-returns-in-InVain-clause-seen
look_at_either-returns-in-InVain-clause-seen g t c =
    let x : AnyContext = context_in (g.T.Lines.lines c.args.lines.now) c.args.context.now in
    let f = marks_behind x c.args.rest.now in
    λ w e. seen_as w _ _ c.args.sight.now c.look_at.new.sight c.look_at.result
    (either_is x (shape_of c.args.first.now) (shape_of c.args.second.now) w f)
    (vain_then w (followed (visits x (shape_of c.args.first.now) w) f) (followed (visits x (shape_of c.args.second.now) w) f) c.args.sight.now c.look_at_branch.new.sight
    (record c.look_at_branch.new.sight { at = c.args.sight.now.at }) c.look_at.new.sight
    c.look_at.result refl refl (rw c.in-InVain.is at c.look_at_branch.ensures.seen w e)
    (c.look_at.ensures.seen w e))

pub look_at_either-returns-in_default : goal.look_at_either-returns-in_default
look_at_either-returns-in_default g t c =
    let x : AnyContext = context_in (g.T.Lines.lines c.args.lines.now) c.args.context.now in
    let f = marks_behind x c.args.rest.now in
    record {
      seen = λ w e. seen_as w _ _ c.args.sight.now c.look_at_branch.new.sight c.look_at_branch.result
          (either_is x (shape_of c.args.first.now) (shape_of c.args.second.now) w f)
          (first_stops w (followed (visits x (shape_of c.args.first.now) w) f) (followed (visits x (shape_of c.args.second.now) w) f) c.args.sight.now c.look_at_branch.new.sight c.look_at_branch.result
          c.in_default.not-InVain (c.look_at_branch.ensures.seen w e));
      goes = c.look_at_branch.ensures.goes;
    }

pub look_at_optional-returns-in-InVain-clause-seen : goal.look_at_optional-returns-in-InVain-clause-seen
look_at_optional-returns-in-InVain-clause-seen g t c =
    let x : AnyContext = context_in (g.T.Lines.lines c.args.lines.now) c.args.context.now in
    let f = marks_behind x c.args.rest.now in
    λ w e. seen_as w _ _ c.args.sight.now c.go_on.new.sight c.go_on.result
    (optional_is x (shape_of c.args.part.now) w f)
    (vain_then w (followed (visits x (shape_of c.args.part.now) w) f) (f w) c.args.sight.now c.look_at.new.sight
    (record c.look_at.new.sight { at = c.args.sight.now.at }) c.go_on.new.sight
    c.go_on.result refl refl (rw c.in-InVain.is at c.look_at.ensures.seen w e)
    (c.go_on.ensures.seen w e))

pub look_at_optional-returns-in_default : goal.look_at_optional-returns-in_default
look_at_optional-returns-in_default g t c =
    let x : AnyContext = context_in (g.T.Lines.lines c.args.lines.now) c.args.context.now in
    let f = marks_behind x c.args.rest.now in
    record {
      seen = λ w e. seen_as w _ _ c.args.sight.now c.look_at.new.sight c.look_at.result
          (optional_is x (shape_of c.args.part.now) w f)
          (first_stops w (followed (visits x (shape_of c.args.part.now) w) f) (f w) c.args.sight.now c.look_at.new.sight c.look_at.result
          c.in_default.not-InVain (c.look_at.ensures.seen w e));
      goes = c.look_at.ensures.goes;
    }

pub go_on-returns-in-Then-clause-seen : goal.go_on-returns-in-Then-clause-seen
go_on-returns-in-Then-clause-seen g t c =
    let x : AnyContext = context_in (g.T.Lines.lines c.args.lines.now) c.args.context.now in
    λ w e. rw c.in-Then.is (c.look_at.ensures.seen w e)

pub go_on-returns-in-AfterTurn-clause-seen : goal.go_on-returns-in-AfterTurn-clause-seen
go_on-returns-in-AfterTurn-clause-seen g t c =
    let x : AnyContext = context_in (g.T.Lines.lines c.args.lines.now) c.args.context.now in
    λ w e. rw c.in-AfterTurn.is (c.look_after_turn.ensures.seen w e)

pub go_on_beyond-returns-then-try_in_vain-clause-seen : goal.go_on_beyond-returns-then-try_in_vain-clause-seen
go_on_beyond-returns-then-try_in_vain-clause-seen g t c =
    let x : AnyContext = context_in (g.T.Lines.lines c.args.lines.now) c.args.context.now in
    let old : Sight = c.args.sight.now in
    let mid : Sight = c.try_in_vain.new.sight in
    let n = c.in-Refused.ticks in
    let tried : mid ≡ record old { spent = spent_times old.spent n (one_line (pos old.at.line)) } = c.try_in_vain.ensures.tried c.if-try_in_vain.true in
    λ w e. refused-seen (marks_behind x c.args.rest.now w) w n old mid (rw c.in-Refused.is at c.vain_beyond.ensures.told w e)
    (tried ∙ ap (λ (p : Place). record old { spent = spent_times old.spent n (one_line (pos p.line)) }) (sym e))

pub look_after_turn-returns-in-Some-clause-seen : goal.look_after_turn-returns-in-Some-clause-seen
look_after_turn-returns-in-Some-clause-seen g t c =
    let x : AnyContext = context_in (g.T.Lines.lines c.args.lines.now) c.args.context.now in
    λ w e. seen_as w _ _ c.args.sight.now c.look_at_count.new.sight c.look_at_count.result
    (ap (λ m. followed m (marks_behind x c.args.rest.now)) ((rw c.in-Some.is at c.next_turns.ensures).1 x w e))
    (c.look_at_count.ensures.seen w e)

pub look_at_count-returns-then-is_spent-clause-seen : goal.look_at_count-returns-then-is_spent-clause-seen
look_at_count-returns-then-is_spent-clause-seen g t c =
    let x : AnyContext = context_in (g.T.Lines.lines c.args.lines.now) c.args.context.now in
    λ w e. seen_as w _ _ c.args.sight.now c.go_on.new.sight c.go_on.result
    (spent_is x c.args.turns.now w (marks_behind x c.args.rest.now) (rw e c.requires.on_text) (search rules))
    (c.go_on.ensures.seen w e)

pub look_at_count-returns-then-turns-gt0-clause-seen : goal.look_at_count-returns-then-turns-gt0-clause-seen
look_at_count-returns-then-turns-gt0-clause-seen g t c =
    let x : AnyContext = context_in (g.T.Lines.lines c.args.lines.now) c.args.context.now in
    λ w e. seen_as w _ _ c.args.sight.now c.look_at_turn.new.sight c.look_at_turn.result
    (forced_is x c.args.turns.now w (marks_behind x c.args.rest.now) (search rules) (search rules))
    (c.look_at_turn.ensures.seen w e)

pub look_at_more-returns-then-is_spent-clause-seen : goal.look_at_more-returns-then-is_spent-clause-seen
look_at_more-returns-then-is_spent-clause-seen g t c =
    let x : AnyContext = context_in (g.T.Lines.lines c.args.lines.now) c.args.context.now in
    λ w e. seen_as w _ _ c.args.sight.now c.go_on.new.sight c.go_on.result
    (spent_is x c.args.turns.now w (marks_behind x c.args.rest.now) (rw e c.requires.stands.on_text) (search rules))
    (c.go_on.ensures.seen w e)

pub look_at_more-returns-in-InVain-clause-seen : goal.look_at_more-returns-in-InVain-clause-seen
look_at_more-returns-in-InVain-clause-seen g t c =
    let x : AnyContext = context_in (g.T.Lines.lines c.args.lines.now) c.args.context.now in
    let f = marks_behind x c.args.rest.now in
    let unspent : is_spent c.args.turns.now.most ≡ false = search rules in
    λ w e. seen_as w _ _ c.args.sight.now c.go_on-in-InVain.new.sight c.go_on-in-InVain.result
    (greedy_is x c.args.turns.now w f (rw e c.requires.stands.on_text) unspent c.requires.free c.requires.greedy)
    (vain_then w (followed (turn_of x c.args.turns.now w) f) (f w) c.args.sight.now c.look_at_turn.new.sight
    (record c.look_at_turn.new.sight { at = c.args.sight.now.at }) c.go_on-in-InVain.new.sight
    c.go_on-in-InVain.result refl refl (rw c.in-InVain.is at c.look_at_turn.ensures.seen w e)
    (c.go_on-in-InVain.ensures.seen w e))

pub look_at_more-returns-in_default : goal.look_at_more-returns-in_default
look_at_more-returns-in_default g t c =
    let x : AnyContext = context_in (g.T.Lines.lines c.args.lines.now) c.args.context.now in
    let f = marks_behind x c.args.rest.now in
    let unspent : is_spent c.args.turns.now.most ≡ false = search rules in
    record {
      seen = λ w e. seen_as w _ _ c.args.sight.now c.look_at_turn.new.sight c.look_at_turn.result
          (greedy_is x c.args.turns.now w f (rw e c.requires.stands.on_text) unspent c.requires.free c.requires.greedy)
          (first_stops w (followed (turn_of x c.args.turns.now w) f) (f w) c.args.sight.now c.look_at_turn.new.sight c.look_at_turn.result
          c.in_default.not-InVain (c.look_at_turn.ensures.seen w e));
      goes = c.look_at_turn.ensures.goes;
    }

pub look_at_lazy-returns-in-InVain-clause-seen : goal.look_at_lazy-returns-in-InVain-clause-seen
look_at_lazy-returns-in-InVain-clause-seen g t c =
    let x : AnyContext = context_in (g.T.Lines.lines c.args.lines.now) c.args.context.now in
    let f = marks_behind x c.args.rest.now in
    λ w e. seen_as w _ _ c.args.sight.now c.look_at_turn.new.sight c.look_at_turn.result
    (lazy_is x c.args.turns.now w f (rw e c.requires.stands.on_text) c.requires.allowed c.requires.free c.requires.lazy)
    (vain_then w (f w) (followed (turn_of x c.args.turns.now w) f) c.args.sight.now c.go_on.new.sight
    (record c.go_on.new.sight { at = c.args.sight.now.at }) c.look_at_turn.new.sight
    c.look_at_turn.result refl refl (rw c.in-InVain.is at c.go_on.ensures.seen w e)
    (c.look_at_turn.ensures.seen w e))

pub look_at_lazy-returns-in_default-go_on : goal.look_at_lazy-returns-in_default-go_on
look_at_lazy-returns-in_default-go_on g t c =
    let x : AnyContext = context_in (g.T.Lines.lines c.args.lines.now) c.args.context.now in
    let f = marks_behind x c.args.rest.now in
    record {
      seen = λ w e. seen_as w _ _ c.args.sight.now c.go_on.new.sight c.go_on.result
          (lazy_is x c.args.turns.now w f (rw e c.requires.stands.on_text) c.requires.allowed c.requires.free c.requires.lazy)
          (first_stops w (f w) (followed (turn_of x c.args.turns.now w) f) c.args.sight.now c.go_on.new.sight c.go_on.result
          c.in_default-go_on.not-InVain (c.go_on.ensures.seen w e));
      goes = c.go_on.ensures.goes;
    }

pub look_at_runs-returns-in-InVain-clause-seen : goal.look_at_runs-returns-in-InVain-clause-seen
look_at_runs-returns-in-InVain-clause-seen g t c =
    let x : AnyContext = context_in (g.T.Lines.lines c.args.lines.now) c.args.context.now in
    let f = marks_behind x c.args.rest.now in
    let t : Turns = c.args.turns.now in
    let old : Sight = c.args.sight.now in
    let mid : Sight = c.go_further.new.sight in
    let next : Sight = c.look_at_more-2.new.sight in
    let n = c.turns_at_once-count.result in
    λ w e.
    let spent : mid.spent ≡ spent_times old.spent n (own_line w) =
    ap (λ s. s.spent) c.go_further.ensures.is ∙ ap (λ p. spent_times old.spent n (own_line (record w { at = p }))) (sym e) in
    let at : (way_on w n).at ≡ mid.at = ap (λ p. columns_on p n) e ∙ sym (ap (λ s. s.at) c.go_further.ensures.is) in
    greedy_seen x t w f c.requires.free c.requires.greedy (rw e c.requires.stands.on_text) n (rw e c.turns_at_once-count.ensures.taken) old mid c.look_at_stops.new.sight c.look_at_stops.result spent (ap (λ (s : Sight). s.notes.items) c.go_further.ensures.is)
    (vain_then w (followed (turns_of x (turns_less t n) (way_on w n)) f) (stops_of f w n) mid next next c.look_at_stops.new.sight c.look_at_stops.result refl refl
    (rw (c.in-InVain.is, c.less_by.ensures) at c.look_at_more-2.ensures.seen (way_on w n) at) (c.look_at_stops.ensures.seen w e))

pub look_at_runs-returns-in_default : goal.look_at_runs-returns-in_default
look_at_runs-returns-in_default g t c =
    let x : AnyContext = context_in (g.T.Lines.lines c.args.lines.now) c.args.context.now in
    let f = marks_behind x c.args.rest.now in
    let t : Turns = c.args.turns.now in
    let old : Sight = c.args.sight.now in
    let mid : Sight = c.go_further.new.sight in
    let next : Sight = c.look_at_more-2.new.sight in
    let n = c.turns_at_once-count.result in
    record {
      seen = λ w e.
          let spent : mid.spent ≡ spent_times old.spent n (own_line w) =
          ap (λ s. s.spent) c.go_further.ensures.is ∙ ap (λ p. spent_times old.spent n (own_line (record w { at = p }))) (sym e) in
          let at : (way_on w n).at ≡ mid.at = ap (λ p. columns_on p n) e ∙ sym (ap (λ s. s.at) c.go_further.ensures.is) in
          greedy_seen x t w f c.requires.free c.requires.greedy (rw e c.requires.stands.on_text) n (rw e c.turns_at_once-count.ensures.taken) old mid next c.look_at_more-2.result spent (ap (λ (s : Sight). s.notes.items) c.go_further.ensures.is)
          (first_stops w (followed (turns_of x (turns_less t n) (way_on w n)) f) (stops_of f w n) mid next c.look_at_more-2.result c.in_default.not-InVain
          (seen_moved w (columns_on w.at n) (followed (turns_of x (turns_less t n) (way_on w n)) f) mid next c.look_at_more-2.result (rw c.less_by.ensures at c.look_at_more-2.ensures.seen (way_on w n) at)));
      goes = went_on _ c.args.sight.now c.go_further.new.sight c.look_at_more-2.new.sight c.go_further.ensures.goes c.look_at_more-2.ensures.goes;
    }

pub look_at_stops-stops-preserved : goal.look_at_stops-stops-preserved
look_at_stops-stops-preserved g t c =
    let text = g.T.Lines.lines c.args.lines.now in
    let x : AnyContext = context_in text c.args.context.now in
    let f = marks_behind x c.args.rest.now in
    let old : Sight = c.args.sight.now in
    let cur : Sight = c.stops.sight in
    let here : Sight = record cur { at = c.columns_on-sight.result } in
    let new : Sight = c.go_on_beyond.new.sight in
    let n = c.stops.left - 1 in
    let one_more : c.stops.left ≡ suc n = omega arith in
    let within = c.stops.invariant.within in
    let columns = c.requires.columns in
    let on_text : IsPlaceOf text here.at = rw c.columns_on-sight.ensures (record { line = c.requires.from.line; col = omega arith }) in
    let goes : GoesOn text old here = went_to text old cur here.at c.stops.invariant.goes on_text in
    record {
      within = omega arith;
      kept = c.go_on_beyond.ensures.kept;
      goes = went_on text old here new goes c.go_on_beyond.ensures.goes;
      notes = (rw c.in-InVain.is at c.go_on_beyond.ensures.seen (way_from here.at) refl).0 ∙ c.stops.invariant.notes;
      seen = λ w e. c.stops.invariant.seen w e
          ∙ ap (λ m. answer_from cur.spent.cost cur.spent.looked (stops_of f w m)) one_more
          ∙ none_then (way_on w n) (f (way_on w n)) (stops_of f w n) here new
          (rw c.in-InVain.is at c.go_on_beyond.ensures.seen (way_on w n) (ap (λ p. columns_on p n) e ∙ sym c.columns_on-sight.ensures));
    }

pub look_at_stops-returns-in_default : goal.look_at_stops-returns-in_default
look_at_stops-returns-in_default g t c =
    let text = g.T.Lines.lines c.args.lines.now in
    let x : AnyContext = context_in text c.args.context.now in
    let f = marks_behind x c.args.rest.now in
    let old : Sight = c.args.sight.now in
    let cur : Sight = c.stops.sight in
    let here : Sight = record cur { at = c.columns_on-sight.result } in
    let new : Sight = c.go_on_beyond.new.sight in
    let n = c.stops.left - 1 in
    let one_more : c.stops.left ≡ suc n = omega arith in
    let within = c.stops.invariant.within in
    let columns = c.requires.columns in
    let on_text : IsPlaceOf text here.at = rw c.columns_on-sight.ensures (record { line = c.requires.from.line; col = omega arith }) in
    let goes : GoesOn text old here = went_to text old cur here.at c.stops.invariant.goes on_text in
    record {
      seen = λ w e. seen_behind w (stops_of f w c.args.count) (f (way_on w n) ++ stops_of f w n) old cur here new c.go_on_beyond.result refl c.stops.invariant.notes
          (c.stops.invariant.seen w e ∙ ap (λ m. answer_from cur.spent.cost cur.spent.looked (stops_of f w m)) one_more)
          (first_stops w (f (way_on w n)) (stops_of f w n) here new c.go_on_beyond.result c.in_default.not-InVain
          (seen_moved w (columns_on w.at n) (f (way_on w n)) here new c.go_on_beyond.result (c.go_on_beyond.ensures.seen (way_on w n) (ap (λ p. columns_on p n) e ∙ sym c.columns_on-sight.ensures))));
      goes = went_on text old here new goes c.go_on_beyond.ensures.goes;
    }

pub look_at_stops-returns-clause-seen : goal.look_at_stops-returns-clause-seen
look_at_stops-returns-clause-seen g t c =
    let text = g.T.Lines.lines c.args.lines.now in
    let x : AnyContext = context_in text c.args.context.now in
    let f = marks_behind x c.args.rest.now in
    let cur : Sight = c.stops.sight in
    let none : c.stops.left ≡ 0 = omega arith in
    λ w e. (c.stops.invariant.notes, c.stops.invariant.seen w e ∙ ap (λ m. answer_from cur.spent.cost cur.spent.looked (stops_of f w m)) none)

pub look_at_lazy_atoms-returns-in_default : goal.look_at_lazy_atoms-returns-in_default
look_at_lazy_atoms-returns-in_default g t c =
    let text = g.T.Lines.lines c.args.lines.now in
    let x : AnyContext = context_in text c.args.context.now in
    let f = marks_behind x c.args.rest.now in
    let t : Turns = c.args.turns.now in
    let u : Turns = record t { most = c.loop.most } in
    let old : Sight = c.args.sight.now in
    let cur : Sight = c.loop.sight in
    let new : Sight = c.go_on_beyond.new.sight in
    let goes = c.loop.invariant.goes in
    record {
      seen = lazy_stops x f t u old cur c.loop.invariant.comes goes.stands.on_text c.requires.free c.requires.lazy new c.go_on_beyond.result
          c.in_default.not-InVain c.go_on_beyond.ensures.seen;
      goes = went_on text old cur new goes c.go_on_beyond.ensures.goes;
    }

pub look_at_lazy_atoms-returns-then-is_spent-clause-seen : goal.look_at_lazy_atoms-returns-then-is_spent-clause-seen
look_at_lazy_atoms-returns-then-is_spent-clause-seen g t c =
    let text = g.T.Lines.lines c.args.lines.now in
    let x : AnyContext = context_in text c.args.context.now in
    let f = marks_behind x c.args.rest.now in
    let t : Turns = c.args.turns.now in
    let u : Turns = record t { most = c.loop.most } in
    let old : Sight = c.args.sight.now in
    let cur : Sight = c.loop.sight in
    let new : Sight = c.go_on_beyond.new.sight in
    let goes = c.loop.invariant.goes in
    let vain : (v : Way) → v.at ≡ cur.at → IsSeen v (f v) cur new InVain = λ v e. rw c.in-InVain.is at c.go_on_beyond.ensures.seen v e in
    let spent : is_spent c.loop.most ≡ true = sym c.is_spent.ensures ∙ c.if-is_spent.true in
    lazy_ends x f t u old cur c.loop.invariant.comes goes.stands.on_text c.requires.free c.requires.lazy new vain spent

pub look_at_lazy_atoms-returns-in_default-look_at_atom : goal.look_at_lazy_atoms-returns-in_default-look_at_atom
look_at_lazy_atoms-returns-in_default-look_at_atom g t c =
    let text = g.T.Lines.lines c.args.lines.now in
    let x : AnyContext = context_in text c.args.context.now in
    let f = marks_behind x c.args.rest.now in
    let t : Turns = c.args.turns.now in
    let u : Turns = record t { most = c.loop.most } in
    let old : Sight = c.args.sight.now in
    let cur : Sight = c.loop.sight in
    let new : Sight = c.go_on_beyond.new.sight in
    let goes = c.loop.invariant.goes in
    let vain : (v : Way) → v.at ≡ cur.at → IsSeen v (f v) cur new InVain = λ v e. rw c.in-InVain.is at c.go_on_beyond.ensures.seen v e in
    let a : Atom = atom_of c.args.test.now in
    let from : Sight = record new { at = cur.at } in
    let mid : Sight = c.look_at_atom.new.sight in
    let unspent : is_spent c.loop.most ≡ false = sym c.is_spent.ensures ∙ c.if-is_spent.false in
    record {
      seen = lazy_misses x f t u old cur c.loop.invariant.comes goes.stands.on_text c.requires.free c.requires.lazy new vain a c.requires.atom unspent from refl refl refl mid c.look_at_atom.result
          c.in_default-look_at_atom.not-Reached c.look_at_atom.ensures.seen;
      goes = went_on text old from mid (went_back text old cur new goes c.go_on_beyond.ensures.goes) c.look_at_atom.ensures.goes;
    }

pub look_at_lazy_atoms-returns-then-not-is_after-clause-seen : goal.look_at_lazy_atoms-returns-then-not-is_after-clause-seen
look_at_lazy_atoms-returns-then-not-is_after-clause-seen g t c =
    let text = g.T.Lines.lines c.args.lines.now in
    let x : AnyContext = context_in text c.args.context.now in
    let f = marks_behind x c.args.rest.now in
    let t : Turns = c.args.turns.now in
    let u : Turns = record t { most = c.loop.most } in
    let old : Sight = c.args.sight.now in
    let cur : Sight = c.loop.sight in
    let new : Sight = c.go_on_beyond.new.sight in
    let goes = c.loop.invariant.goes in
    let vain : (v : Way) → v.at ≡ cur.at → IsSeen v (f v) cur new InVain = λ v e. rw c.in-InVain.is at c.go_on_beyond.ensures.seen v e in
    let a : Atom = atom_of c.args.test.now in
    let from : Sight = record new { at = cur.at } in
    let mid : Sight = c.look_at_atom.new.sight in
    let unspent : is_spent c.loop.most ≡ false = sym c.is_spent.ensures ∙ c.if-is_spent.false in
    let stays : is_after mid.at cur.at ≡ false = sym c.is_after.ensures ∙ c.if-not-is_after.true in
    lazy_stays x f t u old cur c.loop.invariant.comes goes.stands.on_text c.requires.free c.requires.lazy new vain a c.requires.atom unspent from refl refl refl mid
    (λ v e. rw c.in-Reached.is at c.look_at_atom.ensures.seen v e) stays

pub look_at_lazy_atoms-loop-preserved : goal.look_at_lazy_atoms-loop-preserved
look_at_lazy_atoms-loop-preserved g t c =
    let text = g.T.Lines.lines c.args.lines.now in
    let x : AnyContext = context_in text c.args.context.now in
    let f = marks_behind x c.args.rest.now in
    let t : Turns = c.args.turns.now in
    let u : Turns = record t { most = c.loop.most } in
    let old : Sight = c.args.sight.now in
    let cur : Sight = c.loop.sight in
    let new : Sight = c.go_on_beyond.new.sight in
    let goes = c.loop.invariant.goes in
    let vain : (v : Way) → v.at ≡ cur.at → IsSeen v (f v) cur new InVain = λ v e. rw c.in-InVain.is at c.go_on_beyond.ensures.seen v e in
    let a : Atom = atom_of c.args.test.now in
    let from : Sight = record new { at = cur.at } in
    let mid : Sight = c.look_at_atom.new.sight in
    let unspent : is_spent c.loop.most ≡ false = sym c.is_spent.ensures ∙ c.if-is_spent.false in
    let moves : is_after mid.at cur.at ≡ true = sym c.is_after.ensures ∙ c.if-not-is_after.false in
    record {
      goes = went_on text old from mid (went_back text old cur new goes c.go_on_beyond.ensures.goes) c.look_at_atom.ensures.goes;
      kept = c.go_on_beyond.ensures.kept;
      comes = rw c.one_less-most.ensures (lazy_goes x f t u old cur c.loop.invariant.comes goes.stands.on_text c.requires.free c.requires.lazy new vain a c.requires.atom unspent from refl refl refl mid
          (λ v e. rw c.in-Reached.is at c.look_at_atom.ensures.seen v e) moves);
    }

pub go_on-returns-in-Close-clause-seen : goal.go_on-returns-in-Close-clause-seen
go_on-returns-in-Close-clause-seen g t c =
    let x : AnyContext = context_in (g.T.Lines.lines c.args.lines.now) c.args.context.now in
    λ w e. rw c.in-Close.is
    (seen_as w _ _ c.args.sight.now c.go_on_noting.new.sight c.go_on_noting.result (close_is c.in-Close.number c.in-Close.from c.args.sight.now.at w (marks_behind x c.in-Close.others.now) e) (c.go_on_noting.ensures.seen w e))

pub go_on-returns-in-CloseExternal-clause-seen : goal.go_on-returns-in-CloseExternal-clause-seen
go_on-returns-in-CloseExternal-clause-seen g t c =
    let x : AnyContext = context_in (g.T.Lines.lines c.args.lines.now) c.args.context.now in
    λ w e. rw c.in-CloseExternal.is
    (seen_as w _ _ c.args.sight.now c.go_on_noting-in-CloseExternal.new.sight c.go_on_noting-in-CloseExternal.result (close_external_is c.in-CloseExternal.number c.in-CloseExternal.from c.args.sight.now.at w (marks_behind x c.in-CloseExternal.others.now) e) (c.go_on_noting-in-CloseExternal.ensures.seen w e))

pub go_on_noting-returns-then-take_note-clause-seen : goal.go_on_noting-returns-then-take_note-clause-seen
go_on_noting-returns-then-take_note-clause-seen g t c =
    let x : AnyContext = context_in (g.T.Lines.lines c.args.lines.now) c.args.context.now in
    let note : Note = c.args.note in
    let old : Sight = c.args.sight.now in
    let mid : Sight = c.go_on.new.sight in
    let new : Sight = c.take_note.new.sight in
    λ w e.
    let h = rw c.in-Reached.is at c.go_on.ensures.seen (with_note w note) (note-at w note ∙ e) in
    seen_noted w (note ∷ []) (marks_behind x c.args.rest.now (with_note w note)) old mid new h
    c.take_note.ensures.at c.take_note.ensures.spent (c.take_note.ensures.taken c.if-take_note.true)

pub go_on_noting-returns-in_default : goal.go_on_noting-returns-in_default
go_on_noting-returns-in_default g t c =
    let x : AnyContext = context_in (g.T.Lines.lines c.args.lines.now) c.args.context.now in
    let note : Note = c.args.note in
    record {
      seen = λ w e.
          seen_unless_reached (with_note w note) w (marks_behind x c.args.rest.now (with_note w note)) c.args.sight.now c.go_on.new.sight c.go_on.result c.in_default.not-Reached
          (c.go_on.ensures.seen (with_note w note) (note-at w note ∙ e));
      goes = c.go_on.ensures.goes;
    }

pub look_after_turn-returns-in-None-clause-seen : goal.look_after_turn-returns-in-None-clause-seen
look_after_turn-returns-in-None-clause-seen g t c =
    let x : AnyContext = context_in (g.T.Lines.lines c.args.lines.now) c.args.context.now in
    λ w e. (
      refl,
      ap (λ m. answer_from c.args.sight.now.spent.cost c.args.sight.now.spent.looked
          (followed m (marks_behind x c.args.rest.now))) ((rw c.in-None.is at c.next_turns.ensures) x w e),
    )

pub look_at_turn-returns-in_default : goal.look_at_turn-returns-in_default
look_at_turn-returns-in_default g t c =
    let x : AnyContext = context_in (g.T.Lines.lines c.args.lines.now) c.args.context.now in
    let f = marks_behind x c.args.rest.now in
    let t : Turns = c.args.turns.now in
    record {
      seen = λ w e. seen_as w _ _ c.args.sight.now c.look_at.new.sight c.look_at.result
          (turn_is x t w f)
          (subst (λ p. IsSeen w (followed (visits x (shape_of t.part.now) w)
          (λ v. followed (turns_behind x t p v) f)) c.args.sight.now c.look_at.new.sight
          c.look_at.result) (sym e) (c.look_at.ensures.seen w e));
      goes = c.look_at.ensures.goes;
    }

pub look_ahead-returns-then-not-clause-seen : goal.look_ahead-returns-then-not-clause-seen
look_ahead-returns-then-not-clause-seen g t c =
    let x : AnyContext = context_in (g.T.Lines.lines c.args.lines.now) c.args.context.now in
    let f = marks_behind x c.args.rest.now in
    let s : Shape = shape_of c.args.part.now in
    let old : Sight = c.args.sight.now in
    let mid : Sight = c.look_at.new.sight in
    λ w e.
    let h = seen_as w (visits x s w) (followed (visits x s w) (λ v. Reach v ∷ [])) old mid Reached
    (sym (followed-reach (visits x s w))) (rw c.in-Reached.is at c.look_at.ensures.seen w e) in
    let k : c.args.not ≡ true = search rules in
    let before : c.len-before.result ≡ length old.notes.items = omega (arith, c.len-before.ensures) in
    rw k (
      c.truncate.ensures.items ∙ ap (take c.len-before.result) h.1.0 ∙ ap (λ n. take n (old.notes.items ++ h.0)) before ∙ take-whole old.notes.items h.0,
      ahead_is x s true w f old mid (Some (way_noted w h.0 mid.at)) h.1.1,
    )

pub look_ahead-returns-else-not-clause-seen : goal.look_ahead-returns-else-not-clause-seen
look_ahead-returns-else-not-clause-seen g t c =
    let x : AnyContext = context_in (g.T.Lines.lines c.args.lines.now) c.args.context.now in
    let f = marks_behind x c.args.rest.now in
    let s : Shape = shape_of c.args.part.now in
    let old : Sight = c.args.sight.now in
    let mid : Sight = c.look_at.new.sight in
    let base : Sight = record mid { notes = old.notes } in
    λ w e.
    let h = seen_as w (visits x s w) (followed (visits x s w) (λ v. Reach v ∷ [])) old mid Reached
    (sym (followed-reach (visits x s w))) (rw c.in-Reached.is at c.look_at.ensures.seen w e) in
    let k : c.args.not ≡ false = search rules in
    let v : Way = with_all h.0 w in
    let before : c.len-before.result ≡ length old.notes.items = omega (arith, c.len-before.ensures) in
    rw k
    (seen_behind w (followed (visits x (ahead s false) w) f) (f v) old mid base c.go_on_behind.new.sight c.go_on_behind.result refl refl
    (ahead_is x s false w f old mid (Some (way_noted w h.0 mid.at)) h.1.1
    ∙ ap (answer_from mid.spent.cost mid.spent.looked) (append-nil (f (record v { at = w.at })) ∙ ap f (noted-back w h.0)))
    (c.go_on_behind.ensures.seen base w h.0 e refl before h.1.0))

pub look_ahead-returns-else-not-2-clause-seen : goal.look_ahead-returns-else-not-2-clause-seen
look_ahead-returns-else-not-2-clause-seen g t c =
    let x : AnyContext = context_in (g.T.Lines.lines c.args.lines.now) c.args.context.now in
    let f = marks_behind x c.args.rest.now in
    let s : Shape = shape_of c.args.part.now in
    let old : Sight = c.args.sight.now in
    let mid : Sight = c.look_at.new.sight in
    λ w e.
    let h = seen_as w (visits x s w) (followed (visits x s w) (λ v. Reach v ∷ [])) old mid InVain
    (sym (followed-reach (visits x s w))) (rw c.in-InVain.is at c.look_at.ensures.seen w e) in
    let k : c.args.not ≡ false = search rules in
    rw k (h.0, ahead_is x s false w f old mid None h.1)

pub look_ahead-returns-then-not-2-clause-seen : goal.look_ahead-returns-then-not-2-clause-seen
look_ahead-returns-then-not-2-clause-seen g t c =
    let x : AnyContext = context_in (g.T.Lines.lines c.args.lines.now) c.args.context.now in
    let f = marks_behind x c.args.rest.now in
    let s : Shape = shape_of c.args.part.now in
    let old : Sight = c.args.sight.now in
    let mid : Sight = c.look_at.new.sight in
    λ w e.
    let h = seen_as w (visits x s w) (followed (visits x s w) (λ v. Reach v ∷ [])) old mid InVain
    (sym (followed-reach (visits x s w))) (rw c.in-InVain.is at c.look_at.ensures.seen w e) in
    let k : c.args.not ≡ true = search rules in
    rw k
    (seen_behind w (followed (visits x (ahead s true) w) f) (f w) old mid (record mid { at = old.at }) c.go_on.new.sight
    c.go_on.result refl h.0
    (ahead_is x s true w f old mid None h.1
    ∙ ap (answer_from mid.spent.cost mid.spent.looked) (append-nil (f w)))
    (c.go_on.ensures.seen w e))

-- the look took no note
pub go_on_behind-returns-then-len-before-clause-seen : goal.go_on_behind-returns-then-len-before-clause-seen
go_on_behind-returns-then-len-before-clause-seen g t c =
    let x : AnyContext = context_in (g.T.Lines.lines c.args.lines.now) c.args.context.now in
    let f = marks_behind x c.args.rest.now in
    let old : Sight = c.args.sight.now in
    λ base w inner e spent before notes.
    let none : inner ≡ [] = nothing-more base.notes.items inner old.notes.items notes (search rules) in
    let same : old.notes.items ≡ base.notes.items = notes ∙ ap (λ r. base.notes.items ++ r) none ∙ append-nil base.notes.items in
    subst (λ r. IsSeen w (f (with_all r w)) base c.go_on.new.sight c.go_on.result) (sym none)
    (seen_behind w (f w) (f w) base base old c.go_on.new.sight c.go_on.result (sym spent) same refl (c.go_on.ensures.seen w e))

pub go_on_behind-returns-then-before-eq0-clause-seen : goal.go_on_behind-returns-then-before-eq0-clause-seen
go_on_behind-returns-then-before-eq0-clause-seen g t c =
    let x : AnyContext = context_in (g.T.Lines.lines c.args.lines.now) c.args.context.now in
    let f = marks_behind x c.args.rest.now in
    let old : Sight = c.args.sight.now in
    λ base w inner e spent before notes.
    let none : base.notes.items ≡ [] = nothing-there base.notes.items (search rules) in
    let all : old.notes.items ≡ inner = notes ∙ ap (λ r. r ++ inner) none in
    subst (λ r. IsSeen w (f (with_all r w)) base c.go_on_later.new.sight c.go_on_later.result) all
    (c.go_on_later.ensures.seen base w e spent none)

pub go_on_later-rotate_left-requires : goal.go_on_later-rotate_left-requires
go_on_later-rotate_left-requires g t c =
    let old : Sight = c.args.sight.now in
    let h = rw c.in-Reached.is at c.go_on.ensures.seen (way_from old.at) refl in
    let fewer = no-fewer old.notes.items h.0 c.go_on.new.sight.notes.items h.1.0 in
    omega (arith, c.len-noted.ensures)

pub go_on_later-returns-in-Reached-clause-seen : goal.go_on_later-returns-in-Reached-clause-seen
go_on_later-returns-in-Reached-clause-seen g t c =
    let x : AnyContext = context_in (g.T.Lines.lines c.args.lines.now) c.args.context.now in
    let old : Sight = c.args.sight.now in
    let mid : Sight = c.go_on.new.sight in
    let inner = old.notes.items in
    let noted : c.len-noted.result ≡ length inner = omega (arith, c.len-noted.ensures) in
    λ base w e spent none.
    let h = rw c.in-Reached.is at c.go_on.ensures.seen (with_all inner w) (notes-at inner w ∙ e) in
    seen_later w inner (marks_behind x c.args.rest.now (with_all inner w)) base old mid (record mid { notes = c.rotate_left.new.self }) none spent refl h refl refl (c.rotate_left.ensures.items ∙ ap (λ n. drop n mid.notes.items ++ take n mid.notes.items) noted)

pub go_on_later-returns-in-InVain-clause-seen : goal.go_on_later-returns-in-InVain-clause-seen
go_on_later-returns-in-InVain-clause-seen g t c =
    let x : AnyContext = context_in (g.T.Lines.lines c.args.lines.now) c.args.context.now in
    let old : Sight = c.args.sight.now in
    let inner = old.notes.items in
    λ base w e spent none.
    let h = rw c.in-InVain.is at c.go_on.ensures.seen (with_all inner w) (notes-at inner w ∙ e) in
    (c.clear.ensures.items ∙ sym none, ap (λ s. answer_from s.cost s.looked (marks_behind x c.args.rest.now (with_all inner w))) spent ∙ h.1)

pub look_at_turn-returns-in-Reached-clause-seen : goal.look_at_turn-returns-in-Reached-clause-seen
look_at_turn-returns-in-Reached-clause-seen g t c =
    let x : AnyContext = context_in (g.T.Lines.lines c.args.lines.now) c.args.context.now in
    let f = marks_behind x c.args.rest.now in
    let t : Turns = c.args.turns.now in
    let k : shape_of t.part.now ≡ one (atom_of c.in-One.test) = rw c.in-One.is refl in
    λ w e. seen_as w _ _ c.args.sight.now c.look_after_turn.new.sight c.look_after_turn.result
    (turn_is x t w f)
    (subst (λ s. IsSeen w (followed (visits x s w) (λ v. followed (turns_behind x t w.at v) f))
    c.args.sight.now c.look_after_turn.new.sight c.look_after_turn.result) (sym k)
    (atom_then x (atom_of c.in-One.test) w (λ v. followed (turns_behind x t w.at v) f)
    c.args.sight.now c.look_at_atom.new.sight c.look_after_turn.new.sight c.look_after_turn.result
    (rw c.in-Reached.is at c.look_at_atom.ensures.seen w e)
    (λ v h. subst (λ p. IsSeen v (followed (turns_behind x t p v) f) c.look_at_atom.new.sight
    c.look_after_turn.new.sight c.look_after_turn.result) (sym e)
    (c.look_after_turn.ensures.seen v h))))

pub look_at_turn-returns-in_default-look_at_atom : goal.look_at_turn-returns-in_default-look_at_atom
look_at_turn-returns-in_default-look_at_atom g t c =
    let x : AnyContext = context_in (g.T.Lines.lines c.args.lines.now) c.args.context.now in
    let f = marks_behind x c.args.rest.now in
    let t : Turns = c.args.turns.now in
    let k : shape_of t.part.now ≡ one (atom_of c.in-One.test) = rw c.in-One.is refl in
    record {
      seen = λ w e. seen_as w _ _ c.args.sight.now c.look_at_atom.new.sight c.look_at_atom.result
          (turn_is x t w f)
          (subst (λ s. IsSeen w (followed (visits x s w) (λ v. followed (turns_behind x t w.at v) f))
          c.args.sight.now c.look_at_atom.new.sight c.look_at_atom.result) (sym k)
          (atom_stops x (atom_of c.in-One.test) w (λ v. followed (turns_behind x t w.at v) f)
          c.args.sight.now c.look_at_atom.new.sight c.look_at_atom.result
          c.in_default-look_at_atom.not-Reached (c.look_at_atom.ensures.seen w e)));
      goes = c.look_at_atom.ensures.goes;
    }

pub look_at_greedy-returns-then-is_vain_to_end : goal.look_at_greedy-returns-then-is_vain_to_end
look_at_greedy-returns-then-is_vain_to_end g t c =
    record { seen = c.is_vain_to_end.ensures.vain c.if-is_vain_to_end.true; goes = c.is_vain_to_end.ensures.goes }

pub look_at_greedy-returns : goal.look_at_greedy-returns
look_at_greedy-returns g t c =
    let text = g.T.Lines.lines c.args.lines.now in
    let x : AnyContext = context_in text c.args.context.now in
    let same : c.is_vain_to_end.new.sight ≡ c.args.sight.now = c.is_vain_to_end.ensures.unchanged c.if-is_vain_to_end.false in
    record {
      seen = λ w e.
          subst (λ (s : Sight). IsSeen w (followed (turns_of x c.args.turns.now w) (marks_behind x c.args.rest.now)) s c.look_at_runs.new.sight c.look_at_runs.result) same
          (c.look_at_runs.ensures.seen w (e ∙ sym (ap (λ (s : Sight). s.at) same)));
      goes = subst (λ (s : Sight). GoesOn text s c.look_at_runs.new.sight) same c.look_at_runs.ensures.goes;
    }

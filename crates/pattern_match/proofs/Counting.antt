-- Steps of a count.
use Rattle.std.proofs.Common.{◌≡◌, ◌+◌, ◌<◌, ◌≤◌, true, false, [], ◌∷◌, ◌++◌, refl, ap, ◌∙◌, arith, subst, append-nil}
use Rattle.std.specs.Prelude.{Some, None}
use Rattle.syn_base.specs.declared.places.Place.{Place}
use Rattle.vim_pattern.specs.GroupNumbers.{HasNumbers}
use Rattle.match_rules.specs.Ways.{Context, IsPlaceOf, is_after}
use Rattle.match_rules.specs.Marks.{Reach, followed}
use Rattle.match_rules.specs.Counts.{after_turn, is_spent, in_order}
use Rattle.match_rules.specs.Visits.{visits}
use Rattle.match_rules.proofs.MarkLaws.{followed-append}
use Rattle.match_rules.proofs.TurnLaws.{turns-spent, turns-free, turns-forced, after_turn-dropped}
use Rattle.match_rules.proofs.Kept.{visits-kept}
use Rattle.pattern_match.specs.declared.task.Task.{Task}
use Rattle.pattern_match.specs.declared.task.Task.TheVariants.{Count, Turn, AfterTurn}
use Rattle.pattern_match.specs.declared.task.Turns.{Turns}
use Rattle.pattern_match.specs.declared.task.Next.TheVariants as at_once
use Rattle.pattern_match.specs.declared.task.Went.{Went}
use Rattle.pattern_match.specs.declared.task.Went.TheVariants.{GoesOn, Does, Ends}
use Rattle.pattern_match.specs.declared.spent.Spent.{Spent}
use Rattle.pattern_match.specs.Glance.{AreTurnsLeft}
use Rattle.pattern_match.specs.Steps.{shape_of}
use Rattle.pattern_match.specs.Ways.{Ways}
use Rattle.pattern_match.specs.Machine.{task_marks, marks_with}
use Rattle.pattern_match.specs.Heights.{height}
use Rattle.pattern_match.specs.Search.{Leads, Goes, IsStep, marks_first}
use Rattle.pattern_match.proofs.Leading.{silent, leads_on, leads_do, leads_two, leads_stop, leads_nowhere, step_before}

module _ (x : Context) (t : Turns) (old : Ways Task) (numbers : HasNumbers (shape_of t.part.now)) where
  -- behind a turn that began at a place, where turns are left, and where none is
  pub turns_left : (from : Place) (left : Turns) → AreTurnsLeft t from old.here.way.at (Some left) →
      Leads x (height (shape_of t.part.now) + 1) (marks_first x (AfterTurn t from) old) old old (Does (at_once.Count left))
  turns_left from left h =
      let m : HasNumbers (shape_of left.part.now) = rw h.0 numbers in
      let k : height (shape_of left.part.now) ≡ height (shape_of t.part.now) = rw h.0 refl in
      rw (h.1 x old.here.way refl)
      (leads_do x (height (shape_of t.part.now) + 1) old (at_once.Count left) m (omega (arith, k)))

  pub turns_over : (from : Place) → AreTurnsLeft t from old.here.way.at None →
      Leads x (height (shape_of t.part.now) + 1) (marks_first x (AfterTurn t from) old) old old Ends
  turns_over from h = rw (h x old.here.way refl) (leads_nowhere x (height (shape_of t.part.now) + 1) old)

  pub turn_dropped : (from : Place) → is_after old.here.way.at from ≡ false → t.least ≡ 0 →
      Leads x (height (shape_of t.part.now) + 1) (marks_first x (AfterTurn t from) old) old old Ends
  turn_dropped from after l =
      let e : after_turn x.text (visits x (shape_of t.part.now)) t.lazy t.least t.most from old.here.way ≡ [] = rw l (after_turn-dropped x.text (visits x (shape_of t.part.now)) t.lazy t.most from old.here.way after) in
      rw e (leads_nowhere x (height (shape_of t.part.now) + 1) old)

  pub push_turn : (new : Ways Task) (from : Place) → from ≡ old.here.way.at → new ≡ record old { here = record old.here { todo = AfterTurn t from ∷ old.here.todo } } →
      Leads x (height (shape_of t.part.now) + 1) (marks_first x (Turn t) old) old new (Does (at_once.Visit t.part))
  push_turn new from e n =
      subst (λ p. Leads x (height (shape_of t.part.now) + 1) (followed (followed (visits x (shape_of t.part.now) old.here.way) (task_marks x (AfterTurn t p))) (marks_with x old.here.todo)) old new (Does (at_once.Visit t.part))) e
      (leads_two x (height (shape_of t.part.now) + 1) old new (at_once.Visit t.part) (AfterTurn t from) n numbers (omega arith) numbers (omega arith))

  module _ (on_text : IsPlaceOf x.text old.here.way.at) where
    pub count_spent : (s : Spent) → s.cost ≤ s.budget → is_spent t.most ≡ true → Goes x (height (shape_of t.part.now) + 1) (marks_first x (Count t) old) old old s s GoesOn
    count_spent s h e =
        rw (turns-spent x.text (visits x (shape_of t.part.now)) t.lazy (visits-kept x (shape_of t.part.now)) t.least t.most old.here.way on_text e)
        (silent x (height (shape_of t.part.now) + 1) _ old old s GoesOn h (leads_on x (height (shape_of t.part.now) + 1) old old old.here.way refl (λ p. p)))

    pub count_forced : is_spent t.most ≡ false → 0 < t.least → marks_first x (Count t) old ≡ marks_first x (Turn t) old
    count_forced e l = rw (turns-forced x.text (visits x (shape_of t.part.now)) t.lazy t.least t.most old.here.way e l) refl

    free_marks : is_spent t.most ≡ false → t.least ≡ 0 → task_marks x (Count t) old.here.way ≡ in_order t.lazy (task_marks x (Turn t) old.here.way) (Reach old.here.way ∷ [])
    free_marks e l = rw l (turns-free x.text (visits x (shape_of t.part.now)) t.lazy (visits-kept x (shape_of t.part.now)) t.most old.here.way on_text e)

    pub count_lazy : (new : Ways Task) (s : Spent) → s.cost ≤ s.budget → is_spent t.most ≡ false → t.least ≡ 0 → t.lazy ≡ true →
        new ≡ record old { pending = record old.here { todo = Turn t ∷ old.here.todo } ∷ old.pending } →
        Goes x (height (shape_of t.part.now) + 1) (marks_first x (Count t) old) old new s s GoesOn
    count_lazy new s h e l lazy n =
        let k : task_marks x (Count t) old.here.way ≡ Reach old.here.way ∷ task_marks x (Turn t) old.here.way = free_marks e l ∙ ap (λ b. in_order b (task_marks x (Turn t) old.here.way) (Reach old.here.way ∷ [])) lazy in
        rw k (silent x (height (shape_of t.part.now) + 1) _ old new s GoesOn h (leads_stop x (height (shape_of t.part.now) + 1) old new (Turn t) n numbers (omega arith)))

    pub greedy_marks : is_spent t.most ≡ false → t.least ≡ 0 → t.lazy ≡ false → marks_first x (Count t) old ≡ marks_first x (Turn t) old ++ marks_with x old.here.todo old.here.way
    greedy_marks e l lazy =
        let k : task_marks x (Count t) old.here.way ≡ task_marks x (Turn t) old.here.way ++ Reach old.here.way ∷ [] = free_marks e l ∙ ap (λ b. in_order b (task_marks x (Turn t) old.here.way) (Reach old.here.way ∷ [])) lazy in
        rw (k, followed-append, append-nil) refl

    pub count_greedy : (aside new : Ways Task) (earlier later : Spent) (went : Went) → is_spent t.most ≡ false → t.least ≡ 0 → t.lazy ≡ false → aside ≡ record old { pending = old.here ∷ old.pending } →
        IsStep x (height (shape_of t.part.now) + 1) (marks_first x (Turn t) aside) aside new earlier later went → IsStep x (height (shape_of t.part.now) + 1) (marks_first x (Count t) old) old new earlier later went
    count_greedy aside new earlier later went e l lazy a step =
        let k : marks_first x (Turn t) aside ≡ marks_first x (Turn t) old = rw a refl in
        rw (greedy_marks e l lazy) (step_before x (height (shape_of t.part.now) + 1) (marks_first x (Turn t) old) old aside new earlier later a went (rw k at step))

-- Nodes, and how a way goes on behind a look.
use Rattle.std.proofs.Common.{◌≡◌, ℕ, ◌+◌, ◌<◌, ◌≤◌, Bool, true, false, List, [], ◌∷◌, ◌++◌, refl, sym, ap, ◌∙◌, arith, subst, append-nil}
use Rattle.std.specs.Prelude.{Option, Some, None, max}
use Rattle.std.specs.Borrow.{Bor}
use Rattle.std.specs.Prelude.{pos, ◌-ℤ◌}
use Rattle.std.proofs.lemmas.Bool.Decides.{nat_tests}
use Rattle.syn_base.specs.Looked.{one_line}
use Rattle.syn_base.specs.declared.looked.Looked.{Looked}
use Rattle.syn_base.specs.declared.places.Place.{Place}
use Rattle.pattern_items.specs.GroupNumbers.{IsOneToNine}
use Rattle.pattern_items.specs.declared.item.Behind.{Behind}
use Rattle.vim_pattern.specs.GroupNumbers.{HasNumbers}
use Rattle.vim_pattern.specs.Shape.{Shape, empty, seq, or, and, group, external, repeat, ahead}
use Rattle.match_rules.specs.Ways.{Text, Context, Way, IsPlaceOf, is_same_place}
use Rattle.match_rules.specs.Marks.{Mark, Tick, Reach, followed, ticks_first, first_way}
use Rattle.match_rules.specs.Looks.{from_each, starts_behind, ending_at, looking_at}
use Rattle.match_rules.specs.Visits.{visits}
use Rattle.match_rules.proofs.MarkLaws.{AllWays, followed-append}
use Rattle.match_rules.proofs.TurnLaws.{IsWayOf}
use Rattle.match_rules.proofs.Kept.{visits-kept}
use Rattle.pattern_match.specs.declared.task.Task.{Task}
use Rattle.pattern_match.specs.declared.task.Task.TheVariants.{Visit, Look, Close, CloseExternal}
use Rattle.pattern_match.specs.declared.task.Turns.{Turns}
use Rattle.pattern_match.specs.declared.task.Next.TheVariants as at_once
use Rattle.pattern_match.specs.declared.task.Went.{Went}
use Rattle.pattern_match.specs.declared.task.Went.TheVariants.{GoesOn, Does, Ends, TooCostly as NoMore}
use Rattle.pattern_match.specs.declared.look.Look.{Look as LookOf}
use Rattle.pattern_match.specs.declared.look.Ending.{Ending}
use Rattle.pattern_match.specs.declared.look.Ending.TheVariants as ending
use Rattle.pattern_match.specs.declared.step.Step.{Step}
use Rattle.pattern_match.specs.declared.spent.Spent.{Spent}
use Rattle.pattern_match.specs.Steps.{shape_of}
use Rattle.pattern_match.specs.Spending.{spent_on}
use Rattle.pattern_match.specs.Ways.{Thread, Ways}
use Rattle.pattern_match.specs.Machine.{task_marks, part_marks, end_marks, marks_with, marks_to_come}
use Rattle.pattern_match.specs.Heights.{height, AreTasks, AreSound}
use Rattle.pattern_match.specs.Search.{going, Leads, Goes, IsOver, IsStep, HasEnded, behind_look, marks_first}
use Rattle.pattern_match.proofs.Leading.{silent, leads_on, leads_do, leads_two, leads_or, leads_nowhere, leads_before}
use Rattle.pattern_match.proofs.Looping.{way_is}

module _ (x : Context) (node : Shape) (old new : Ways Task) (s : Spent) (numbers : HasNumbers node)
    (within : s.cost ≤ s.budget) where
  pub follow_empty : node ≡ empty → new ≡ old →
      Goes x (height node) (followed (visits x node old.here.way) (marks_with x old.here.todo)) old
      new s s GoesOn
  follow_empty k e = rw k (silent x 0 _ old new s GoesOn within
      (leads_on x 0 old new old.here.way e (λ p. p)))

  pub follow_seq : (i j : Bor Step) → node ≡ seq (shape_of i.now) (shape_of j.now) →
      new ≡ record old { here = record old.here { todo = Visit j ∷ old.here.todo } } →
      Goes x (height node) (followed (visits x node old.here.way) (marks_with x old.here.todo)) old
      new s s (Does (at_once.Visit i))
  follow_seq i j k e =
      let h : HasNumbers (shape_of i.now) × HasNumbers (shape_of j.now) = rw k at numbers in
      let m : height node ≡ max (height (shape_of i.now)) (height (shape_of j.now)) + 1 =
      rw k refl in
      let l = leads_two x (height node) old new (at_once.Visit i) (Visit j) e h.0 (omega arith) h.1
      (omega arith) in
      silent x (height node) _ old new s (Does (at_once.Visit i)) within
      (subst (λ n. Leads x (height node)
      (followed (visits x n old.here.way) (marks_with x old.here.todo)) old new
      (Does (at_once.Visit i))) (sym k) l)

  pub follow_or : (i j : Bor Step) → node ≡ or (shape_of i.now) (shape_of j.now) →
      new ≡ record old {
        pending = record old.here { todo = Visit j ∷ old.here.todo }
            ∷ old.pending;
      } →
      Goes x (height node) (followed (visits x node old.here.way) (marks_with x old.here.todo)) old
      new s s (Does (at_once.Visit i))
  follow_or i j k e =
      let h : HasNumbers (shape_of i.now) × HasNumbers (shape_of j.now) = rw k at numbers in
      let m : height node ≡ max (height (shape_of i.now)) (height (shape_of j.now)) + 1 =
      rw k refl in
      let l = leads_or x (height node) old new (at_once.Visit i) (Visit j) e h.0 (omega arith) h.1
      (omega arith) in
      silent x (height node) _ old new s (Does (at_once.Visit i)) within
      (subst (λ n. Leads x (height node)
      (followed (visits x n old.here.way) (marks_with x old.here.todo)) old new
      (Does (at_once.Visit i))) (sym k) l)

  pub follow_or_empty : (i : Bor Step) → node ≡ or (shape_of i.now) empty →
      new ≡ record old { pending = old.here ∷ old.pending } →
      Goes x (height node) (followed (visits x node old.here.way) (marks_with x old.here.todo)) old
      new s s (Does (at_once.Visit i))
  follow_or_empty i k e =
      let h : HasNumbers (shape_of i.now) × HasNumbers empty = rw k at numbers in
      let m : height node ≡ max (height (shape_of i.now)) 0 + 1 = rw k refl in
      let both : marks_first x (Visit i) old ++ marks_with x old.here.todo old.here.way
      ≡ followed (visits x node old.here.way) (marks_with x old.here.todo) =
      ap (λ r. marks_first x (Visit i) old ++ r) (sym (append-nil _))
      ∙ sym (followed-append (visits x (shape_of i.now) old.here.way) (Reach old.here.way ∷ [])
      (marks_with x old.here.todo))
      ∙ ap (λ n. followed (visits x n old.here.way) (marks_with x old.here.todo)) (sym k) in
      let l = leads_do x (height node) new (at_once.Visit i) h.0 (omega arith) in
      silent x (height node) _ old new s (Does (at_once.Visit i)) within
      (subst (λ m. Leads x (height node) m old new (Does (at_once.Visit i))) both
      (leads_before x (height node) old new new (marks_first x (Visit i) old)
      (Does (at_once.Visit i)) e
      (subst (λ m. Leads x (height node) m new new (Does (at_once.Visit i)))
      (ap (λ t. followed (visits x (shape_of i.now) t.way) (marks_with x t.todo))
      (ap (λ v. v.here) e)) l)))

  pub follow_group : (i : Bor Step) (number : ℕ) (from : Place) →
      node ≡ group (shape_of i.now) number → from ≡ old.here.way.at →
      new ≡ record old { here = record old.here { todo = Close number from ∷ old.here.todo } } →
      Goes x (height node) (followed (visits x node old.here.way) (marks_with x old.here.todo)) old
      new s s (Does (at_once.Visit i))
  follow_group i number from k f e =
      let h : IsOneToNine number × HasNumbers (shape_of i.now) = rw k at numbers in
      let m : height node ≡ height (shape_of i.now) + 1 = rw k refl in
      let e' : new ≡ record old {
        here =
            record old.here { todo = Close number old.here.way.at ∷ old.here.todo };
      } = e
      ∙ ap (λ p. record old {
        here =
            record old.here { todo = Close number p ∷ old.here.todo };
      }) f in
      let l = leads_two x (height node) old new (at_once.Visit i) (Close number old.here.way.at) e'
      h.1 (omega arith) h.0 (omega arith) in
      silent x (height node) _ old new s (Does (at_once.Visit i)) within
      (subst (λ n. Leads x (height node)
      (followed (visits x n old.here.way) (marks_with x old.here.todo)) old new
      (Does (at_once.Visit i))) (sym k) l)

  pub follow_external : (i : Bor Step) (number : ℕ) (from : Place) →
      node ≡ external (shape_of i.now) number → from ≡ old.here.way.at →
      new ≡ record old {
        here = record old.here {
          todo = CloseExternal number from
              ∷ old.here.todo;
        };
      } →
      Goes x (height node) (followed (visits x node old.here.way) (marks_with x old.here.todo)) old
      new s s (Does (at_once.Visit i))
  follow_external i number from k f e =
      let h : IsOneToNine number × HasNumbers (shape_of i.now) = rw k at numbers in
      let m : height node ≡ height (shape_of i.now) + 1 = rw k refl in
      let e' : new ≡ record old {
        here =
            record old.here { todo = CloseExternal number old.here.way.at ∷ old.here.todo };
      } = e
      ∙ ap (λ p. record old {
        here =
            record old.here { todo = CloseExternal number p ∷ old.here.todo };
      }) f in
      let l = leads_two x (height node) old new (at_once.Visit i)
      (CloseExternal number old.here.way.at) e' h.1 (omega arith) h.0 (omega arith) in
      silent x (height node) _ old new s (Does (at_once.Visit i)) within
      (subst (λ n. Leads x (height node)
      (followed (visits x n old.here.way) (marks_with x old.here.todo)) old new
      (Does (at_once.Visit i))) (sym k) l)

  pub follow_repeat : (t : Turns) → node ≡ repeat (shape_of t.part.now) t.least t.most t.lazy →
      new ≡ old →
      Goes x (height node) (followed (visits x node old.here.way) (marks_with x old.here.todo)) old
      new s s (Does (at_once.Count t))
  follow_repeat t k e =
      let h : HasNumbers (shape_of t.part.now) = rw k at numbers in
      let m : height node ≡ height (shape_of t.part.now) + 1 = rw k refl in
      let l = leads_do x (height node) old (at_once.Count t) h (omega arith) in
      silent x (height node) _ old new s (Does (at_once.Count t)) within
      (subst (λ w. Leads x (height node)
      (followed (visits x node old.here.way) (marks_with x old.here.todo)) old w
      (Does (at_once.Count t))) (sym e)
      (subst (λ n. Leads x (height node)
      (followed (visits x n old.here.way) (marks_with x old.here.todo)) old old
      (Does (at_once.Count t))) (sym k) l))

  -- a part that is searched
  pub follow_looks : (l : LookOf) (n : Shape) → node ≡ n →
      ((w : Way) → visits x n w ≡ task_marks x (Look l) w) →
      (HasNumbers n → HasNumbers (shape_of l.part.now)) →
      height n ≡ height (shape_of l.part.now) + 1 → new ≡ old →
      Goes x (height node) (followed (visits x node old.here.way) (marks_with x old.here.todo)) old
      new s s
      (Does (at_once.Look l))
  follow_looks l n k same num high e =
      let h : HasNumbers n = rw k at numbers in
      let m : height node ≡ height n = ap height k in
      let d = leads_do x (height node) old (at_once.Look l) (num h) (omega arith) in
      silent x (height node) _ old new s (Does (at_once.Look l)) within
      (subst (λ v. Leads x (height node)
      (followed (visits x node old.here.way) (marks_with x old.here.todo)) old v
      (Does (at_once.Look l))) (sym e)
      (subst (λ a. Leads x (height node) (followed a (marks_with x old.here.todo)) old old
      (Does (at_once.Look l)))
      (sym (ap (λ n. visits x n old.here.way) k ∙ same old.here.way)) d))

  -- a part that is searched before another is followed
  pub follow_and : (i j : Bor Step) → node ≡ and (shape_of i.now) (shape_of j.now) →
      new ≡ record old { here = record old.here { todo = Visit j ∷ old.here.todo } } →
      Goes x (height node) (followed (visits x node old.here.way) (marks_with x old.here.todo)) old
      new s s
      (Does (at_once.Look (record { part = i; behind = None; ending = ending.Look false })))
  follow_and i j k e =
      let l : LookOf = record { part = i; behind = None; ending = ending.Look false } in
      let h : HasNumbers (shape_of i.now) × HasNumbers (shape_of j.now) = rw k at numbers in
      let m : height node ≡ max (height (shape_of i.now)) (height (shape_of j.now)) + 1 =
      rw k refl in
      let d = leads_two x (height node) old new (at_once.Look l) (Visit j) e h.0 (omega arith) h.1
      (omega arith) in
      silent x (height node) _ old new s (Does (at_once.Look l)) within
      (subst (λ n. Leads x (height node)
      (followed (visits x n old.here.way) (marks_with x old.here.todo)) old new
      (Does (at_once.Look l))) (sym k) d)

  pub follow_never : node ≡ ahead empty true →
      Goes x (height node) (followed (visits x node old.here.way) (marks_with x old.here.todo)) old
      old s s Ends
  follow_never k =
      rw k (silent x (height (ahead empty true)) [] old old s Ends within
      (leads_nowhere x (height (ahead empty true)) old))

-- ---- behind a look

followed-ticks : (marks k : List Mark) (next : Way → List Mark) →
    followed (ticks_first marks ++ k) next ≡ ticks_first marks ++ followed k next
followed-ticks [] k next = refl
followed-ticks (Tick m ∷ marks) k next = ap (λ r. Tick m ∷ r) (followed-ticks marks k next)
followed-ticks (Reach w ∷ marks) k next = refl

abbrev pub found_if : Bool → Way → Option Way
found_if true w = Some w
found_if false w = None

behind-same : (x : Context) (e : Ending) (found : Bool) (t : Thread Task) (v : Way) →
    marks_to_come x (behind_look e found t v) ≡ followed (end_marks e t.way (found_if found v))
    (marks_with x t.todo)
behind-same x (ending.Look true) true t v = refl
behind-same x (ending.Look true) false t v = refl
behind-same x (ending.Look false) true t v = refl
behind-same x (ending.Look false) false t v = refl
behind-same x ending.Whole true t v = refl
behind-same x ending.Whole false t v = refl

behind-sound : (text : Text) (n : ℕ) (e : Ending) (found : Bool) (t : Thread Task) (v : Way) →
    IsPlaceOf text t.way.at → AreTasks n t.todo →
    (found ≡ true → e ≡ ending.Whole → IsPlaceOf text v.at) →
    AreSound text n (behind_look e found t v)
behind-sound text n (ending.Look true) true t v p s h = tt
behind-sound text n (ending.Look true) false t v p s h = ((p, s), tt)
behind-sound text n (ending.Look false) true t v p s h = ((p, s), tt)
behind-sound text n (ending.Look false) false t v p s h = tt
behind-sound text n ending.Whole true t v p s h = ((h refl refl, s), tt)
behind-sound text n ending.Whole false t v p s h = tt

first-of-all : (P : Way → Type 0) (marks : List Mark) (v : Way) → AllWays P marks →
    first_way marks ≡ Some v → P v
first-of-all P [] v h e = absurd (cc)
first-of-all P (Tick l ∷ marks) v h e = first-of-all P marks v h e
first-of-all P (Reach w ∷ marks) v h e = let k : w ≡ v = cc in subst P k h.0

module _ (x : Context) (e : Ending) (old : Ways Task) (marks : List Mark) where
  pub look_goes : AllWays (IsWayOf x.text) marks →
      (found : Bool) (aside ways new : Ways Task) (earlier later : Spent) (went : Went) →
      HasEnded marks aside ways earlier later (found_if found ways.here.way) →
      new.pending ≡ old.pending → going went new.here [] ≡ behind_look e found old.here
      ways.here.way →
      Goes x 0 (followed (ticks_first marks ++ end_marks e old.here.way (first_way marks))
      (marks_with x old.here.todo)) old new earlier later went
  look_goes kept found aside ways new earlier later went h p g =
      let first : found_if found ways.here.way ≡ first_way marks =
      sym (ap (λ a. a.way) h.answer) ∙ way_is earlier.cost earlier.looked marks in
      record {
        made = marks;
        left = followed (end_marks e old.here.way (first_way marks)) (marks_with x old.here.todo);
        all = followed-ticks marks (end_marks e old.here.way (first_way marks))
            (marks_with x old.here.todo);
        spent = rw (h.answer, ← h.budget) refl;
        within = h.within;
        leads = record {
          more = [];
          pending = p;
          same = ap (marks_to_come x) g ∙
              (behind-same x e found old.here ways.here.way
              ∙ ap (λ o. followed (end_marks e old.here.way o) (marks_with x old.here.todo)) first);
          sound = λ n high on_text items.
              subst (AreSound x.text n) (sym g)
              (behind-sound x.text n e found old.here ways.here.way on_text items
              (λ f w. first-of-all (IsWayOf x.text) marks ways.here.way kept
              (sym first ∙ rw f refl)));
        };
      }

  pub look_over : (earlier : Spent) → earlier.budget < (spent_on earlier marks).cost →
      IsOver (followed (ticks_first marks ++ end_marks e old.here.way (first_way marks))
      (marks_with x old.here.todo)) earlier
  look_over earlier h = record {
    made = marks;
    left = followed (end_marks e old.here.way (first_way marks)) (marks_with x old.here.todo);
    all = followed-ticks marks (end_marks e old.here.way (first_way marks))
        (marks_with x old.here.todo);
    over = h;
  }

-- the ways of a look behind end at the place
same-place : (p q : Place) → is_same_place p q ≡ true → p ≡ q
same-place p q h =
    let l : p.line ≡ q.line = grind (arith, nat_tests) in
    let c : p.col ≡ q.col = grind (arith, nat_tests) in
    λ i. record { line = l i; col = c i }

ending-kept : (text : Text) (p : Place) (marks : List Mark) → IsPlaceOf text p →
    AllWays (IsWayOf text) (ending_at p marks)
ending-kept text p [] h = tt
ending-kept text p (Tick l ∷ marks) h = ending-kept text p marks h
ending-kept text p (Reach w ∷ marks) h =
    elim (is_same_place w.at p) as (λ b. is_same_place w.at p ≡ b →
    AllWays (IsWayOf text) (elim b as (λ _. List Mark)
    [ true ↦ Reach w ∷ ending_at p marks | false ↦ ending_at p marks ])) [
      | true ↦ λ e. (
        subst (IsPlaceOf text) (sym (same-place w.at p e)) h,
        ending-kept text p marks h,
      )
      | false ↦ λ e. ending-kept text p marks h
    ] refl

looking-kept : (P : Way → Type 0) (more : Looked) (marks : List Mark) → AllWays P marks →
    AllWays P (looking_at more marks)
looking-kept P more [] h = tt
looking-kept P more (Tick l ∷ marks) h = looking-kept P more marks h
looking-kept P more (Reach w ∷ marks) h = (h.0, looking-kept P more marks h.1)

pub part-kept : (x : Context) (part : Shape) (behind : Option Behind) (w : Way) →
    IsPlaceOf x.text w.at → AllWays (IsWayOf x.text) (part_marks x part behind w)
part-kept x part None w h = visits-kept x part w h
part-kept x part (Some limit) w h = looking-kept (IsWayOf x.text)
    (one_line (pos w.at.line -ℤ pos 1)) (ending_at w.at
    (from_each (visits x part) w (starts_behind x.text limit w.at)))
    (ending-kept x.text w.at (from_each (visits x part) w (starts_behind x.text limit w.at)) h)

-- ---- a step of a part of what is to be done

leads-higher : (x : Context) (high : ℕ) (marks : List Mark) (old new : Ways Task) (went : Went) →
    Leads x 0 marks old new went → Leads x high marks old new went
leads-higher x high marks old new went l =
    record {
      more = l.more;
      pending = l.pending;
      same = l.same;
      sound = λ n h p s. l.sound n (omega arith) p s;
    }

goes-higher : (x : Context) (high : ℕ) (marks : List Mark) (old new : Ways Task)
    (earlier later : Spent) (went : Went) → Goes x 0 marks old new earlier later went →
    Goes x high marks old new earlier later went
goes-higher x high marks old new earlier later went g =
    record {
      made = g.made;
      left = g.left;
      all = g.all;
      spent = g.spent;
      within = g.within;
      leads = leads-higher x high g.left old new went g.leads;
    }

pub higher : (x : Context) (high : ℕ) (marks : List Mark) (old new : Ways Task)
    (earlier later : Spent) (went : Went) → IsStep x 0 marks old new earlier later went →
    IsStep x high marks old new earlier later went
higher x high marks old new earlier later GoesOn g =
    goes-higher x high marks old new earlier later GoesOn g
higher x high marks old new earlier later (Does item) g =
    goes-higher x high marks old new earlier later (Does item) g
higher x high marks old new earlier later Ends g =
    goes-higher x high marks old new earlier later Ends g
higher x high marks old new earlier later NoMore o = o

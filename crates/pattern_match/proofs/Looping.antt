-- The loop of a search: what its ways still try and reach stays the same.
use Rattle.std.proofs.Common.{◌≡◌, ◌≢◌, inl, inr, ℕ, suc, ◌+◌, ◌<◌, ◌≤◌, Bool, true, false, List, [], ◌∷◌, ◌++◌, length, rules, refl, sym, ap, ◌∙◌, arith, subst, append_assoc, append-nil, length-append}
use Rattle.std.specs.Prelude.{Option, Some, None, IsTrue, IsFalse, max, nat_eq}
use Rattle.std.proofs.lemmas.Bool.{cases_Bool}
use Rattle.std.proofs.lemmas.Bool.Decides.{nat_tests}
use Rattle.syn_base.specs.declared.looked.Looked.{Looked}
use Rattle.syn_base.specs.declared.places.Place.{Place}
use Rattle.match_rules.specs.Ways.{Context, Way, IsPlaceOf}
use Rattle.match_rules.specs.Marks.{Mark, Tick, Reach, followed, ticks_first, first_way}
use Rattle.match_rules.specs.Looks.{ending_at}
use Rattle.match_rules.specs.Attempt.{Answer, answer_from, joined}
use Rattle.match_rules.proofs.MarkLaws.{followed-append, followed-reach}
use Rattle.std.specs.Borrow.{Bor}
use Rattle.vim_pattern.specs.GroupNumbers.{HasNumbers}
use Rattle.match_rules.specs.Visits.{visits}
use Rattle.pattern_match.specs.declared.task.Task.{Task}
use Rattle.pattern_match.specs.declared.task.Task.TheVariants.{Visit, Again}
use Rattle.pattern_match.specs.declared.step.Step.{Step}
use Rattle.vim_pattern.specs.Shape.{or}
use Rattle.pattern_match.specs.Fates.{choice, fate_of, passes}
use Rattle.pattern_match.specs.Steps.{shape_of}
use Rattle.pattern_match.specs.Spending.{spent_on}
use Rattle.pattern_match.specs.declared.task.Next.{Next}
use Rattle.pattern_match.specs.declared.task.Next.TheVariants as at_once
use Rattle.pattern_match.specs.declared.task.Went.{Went}
use Rattle.pattern_match.specs.declared.task.Went.TheVariants.{GoesOn, Does, Ends, TooCostly as NoMore}
use Rattle.pattern_match.specs.declared.spent.Spent.{Spent}
use Rattle.pattern_match.specs.Ways.{Thread, Ways}
use Rattle.pattern_match.specs.Machine.{marks_with, marks_of, marks_to_come}
use Rattle.pattern_match.specs.Heights.{height, height_of, AreTasks}
use Rattle.pattern_match.specs.Search.{task_of, going, Goes, IsOver, IsStep, marks_first, wanted_marks, is_wanted, going_again, IsChoice}
use Rattle.pattern_match.proofs.Leading.{marks_to_come-append, going-append}
use Rattle.pattern_match.proofs.Choosing.{AreFollowed, IsKept, sound-followed, followed-append-threads, later-followed, item-tasks, next-tasks, first-none, followed-nothing}
use Rattle.pattern_match.proofs.AlikeLaws.{wanted-append, nothing-again}
use Rattle.pattern_match.proofs.FateLaws.{choice_is, choice_parts, passing_all, passing_first}

-- ---- answers

-- the ticks of a part, and then more
pub through : (n : ℕ) (l : Option Looked) (marks k : List Mark) → answer_from n l (ticks_first marks ++ k) ≡ answer_from (answer_from n l marks).cost (answer_from n l marks).looked k
through n l [] k = refl
through n l (Tick m ∷ marks) k = through (suc n) (joined l m) marks k
through n l (Reach w ∷ marks) k = refl

pub way_is : (n : ℕ) (l : Option Looked) (marks : List Mark) → (answer_from n l marks).way ≡ first_way marks
way_is n l [] = refl
way_is n l (Tick m ∷ marks) = way_is (suc n) (joined l m) marks
way_is n l (Reach w ∷ marks) = refl

-- a cost only rises
pub cost_up : (n : ℕ) (l : Option Looked) (marks : List Mark) → n ≤ (answer_from n l marks).cost
cost_up n l [] = omega arith
cost_up n l (Tick m ∷ marks) = let h = cost_up (suc n) (joined l m) marks in omega arith
cost_up n l (Reach w ∷ marks) = omega arith

ending_at-ticks : (p : Place) (marks k : List Mark) → ending_at p (ticks_first marks ++ k) ≡ ticks_first marks ++ ending_at p k
ending_at-ticks p [] k = refl
ending_at-ticks p (Tick m ∷ marks) k = ap (λ r. Tick m ∷ r) (ending_at-ticks p marks k)
ending_at-ticks p (Reach w ∷ marks) k = refl

pub wanted-ticks : (wanted : Option Place) (marks k : List Mark) → wanted_marks wanted (ticks_first marks ++ k) ≡ ticks_first marks ++ wanted_marks wanted k
wanted-ticks None marks k = refl
wanted-ticks (Some p) marks k = ending_at-ticks p marks k

wanted-reach : (wanted : Option Place) (w : Way) (marks : List Mark) → is_wanted wanted w.at ≡ true → wanted_marks wanted (Reach w ∷ marks) ≡ Reach w ∷ wanted_marks wanted marks
wanted-reach None w marks h = refl
wanted-reach (Some p) w marks h = rw (h, ending_at) refl

wanted-other : (wanted : Option Place) (w : Way) (marks : List Mark) → is_wanted wanted w.at ≡ false → wanted_marks wanted (Reach w ∷ marks) ≡ wanted_marks wanted marks
wanted-other None w marks h = absurd (cc)
wanted-other (Some p) w marks h = rw (h, ending_at) refl

wanted-none : (wanted : Option Place) → wanted_marks wanted [] ≡ []
wanted-none None = refl
wanted-none (Some p) = refl

-- without a tick the cost stays, and so do the marks
no-tick : (n : ℕ) (l : Option Looked) (made : List Mark) → (answer_from n l made).cost ≡ n → ticks_first made ≡ []
no-tick n l [] e = refl
no-tick n l (Tick m ∷ made) e = let h = cost_up (suc n) (joined l m) made in absurd (omega arith)
no-tick n l (Reach w ∷ made) e = refl

tick-or-none : (spent : Spent) (made marks left : List Mark) → marks ≡ ticks_first made ++ left → (spent.cost ≤ (spent_on spent made).cost) × ((spent_on spent made).cost ≡ spent.cost → marks ≡ left)
tick-or-none spent made marks left e = (
  cost_up spent.cost spent.looked made,
  λ k. e ∙ ap (λ t. t ++ left) (no-tick spent.cost spent.looked made k),
)

-- ---- the loop

-- what a search has come to: the ways that it has put before the pending ones, and how this one goes on
pub record Running (x : Context) (n : ℕ) (wanted : Option Place) (answer : Answer) (budget : ℕ) (floor : List (Thread Task)) (ways : Ways Task) (spent : Spent) (went : Went) : Type 0 where
  pub more : List (Thread Task)
  pub pending : ways.pending ≡ more ++ floor
  pub told : answer_from spent.cost spent.looked (wanted_marks wanted (marks_to_come x (going went ways.here more))) ≡ answer
  pub sound : AreFollowed x wanted n spent.cost [] (going went ways.here more)
  pub within : spent.cost ≤ spent.budget
  pub budget_is : spent.budget ≡ budget

-- the same, where a thing is to be done before all that is to be done on the way
pub record Doing (x : Context) (n : ℕ) (wanted : Option Place) (answer : Answer) (budget : ℕ) (floor : List (Thread Task)) (ways : Ways Task) (spent : Spent) (item : Task) : Type 0 where
  pub more : List (Thread Task)
  pub pending : ways.pending ≡ more ++ floor
  pub told : answer_from spent.cost spent.looked (wanted_marks wanted (marks_to_come x (record ways.here { todo = item ∷ ways.here.todo } ∷ more))) ≡ answer
  pub on_text : IsPlaceOf x.text ways.here.way.at
  pub tasks : AreTasks n (item ∷ ways.here.todo)
  pub followed : AreFollowed x wanted n spent.cost (marks_first x item ways) more
  pub within : spent.cost ≤ spent.budget
  pub budget_is : spent.budget ≡ budget

abbrev pub IsRunning : Context → ℕ → Option Place → Answer → ℕ → List (Thread Task) → Ways Task → Spent → Went → Type 0
IsRunning x n wanted answer budget floor ways spent NoMore = budget < answer.cost
IsRunning x n wanted answer budget floor ways spent went = Running x n wanted answer budget floor ways spent went

module _ (x : Context) (n : ℕ) (wanted : Option Place) (answer : Answer) (budget : ℕ) (floor : List (Thread Task)) (ways : Ways Task) (spent : Spent) where
  module _ (new : Ways Task) (later : Spent) (item : Task) (r : Doing x n wanted answer budget floor ways spent item) where
    told_goes : (went : Went) (s : Goes x (height_of item) (marks_first x item ways) ways new spent later went) → answer_from later.cost later.looked (wanted_marks wanted (marks_to_come x (going went new.here (s.leads.more ++ r.more)))) ≡ answer
    told_goes went s =
        let a : marks_to_come x (going went new.here (s.leads.more ++ r.more)) ≡ s.left ++ marks_to_come x r.more =
        ap (marks_to_come x) (going-append went new.here s.leads.more r.more) ∙ (marks_to_come-append x (going went new.here s.leads.more) r.more ∙ ap (λ m. m ++ marks_to_come x r.more) s.leads.same) in
        let b : marks_first x item ways ++ marks_to_come x r.more ≡ ticks_first s.made ++ (s.left ++ marks_to_come x r.more) =
        ap (λ m. m ++ marks_to_come x r.more) s.all ∙ append_assoc (ticks_first s.made) s.left (marks_to_come x r.more) in
        let c : wanted_marks wanted (marks_first x item ways ++ marks_to_come x r.more) ≡ ticks_first s.made ++ wanted_marks wanted (s.left ++ marks_to_come x r.more) =
        ap (wanted_marks wanted) b ∙ wanted-ticks wanted s.made (s.left ++ marks_to_come x r.more) in
        ap (λ m. answer_from later.cost later.looked (wanted_marks wanted m)) a
        ∙ (ap (λ t. answer_from t.cost t.looked (wanted_marks wanted (s.left ++ marks_to_come x r.more))) s.spent
        ∙ (sym (through spent.cost spent.looked s.made (wanted_marks wanted (s.left ++ marks_to_come x r.more)))
        ∙ (ap (answer_from spent.cost spent.looked) (sym c) ∙ r.told)))

    sound_goes : (went : Went) → (s : Goes x (height_of item) (marks_first x item ways) ways new spent later went) → AreFollowed x wanted n later.cost [] (going went new.here (s.leads.more ++ r.more))
    sound_goes went s =
        let t = tick-or-none spent s.made (marks_first x item ways) s.left s.all in
        let c : (spent_on spent s.made).cost ≡ later.cost = ap (λ l. l.cost) (sym s.spent) in
        let f : AreFollowed x wanted n (spent_on spent s.made).cost s.left r.more =
        later-followed x wanted n spent.cost (spent_on spent s.made).cost t.0 r.more (marks_first x item ways) s.left (λ e. ap (wanted_marks wanted) (t.1 e)) r.followed in
        subst (AreFollowed x wanted n later.cost []) (sym (going-append went new.here s.leads.more r.more))
        (followed-append-threads x wanted n later.cost [] (going went new.here s.leads.more) r.more
        (sound-followed x wanted n later.cost [] (going went new.here s.leads.more) (s.leads.sound n r.tasks.0.1 r.on_text r.tasks.1))
        (rw (s.leads.same, ← c) f))

    goes : (went : Went) → Goes x (height_of item) (marks_first x item ways) ways new spent later went → Running x n wanted answer budget floor new later went
    goes went s = record {
      more = s.leads.more ++ r.more;
      pending = s.leads.pending ∙ (ap (λ p. s.leads.more ++ p) r.pending ∙ sym (append_assoc s.leads.more r.more floor));
      told = told_goes went s;
      sound = sound_goes went s;
      within = s.within;
      budget_is = ap (λ t. t.budget) s.spent ∙ r.budget_is;
    }

    over : IsOver (marks_first x item ways) spent → budget < answer.cost
    over o =
        let b : marks_first x item ways ++ marks_to_come x r.more ≡ ticks_first o.made ++ (o.left ++ marks_to_come x r.more) =
        ap (λ m. m ++ marks_to_come x r.more) o.all ∙ append_assoc (ticks_first o.made) o.left (marks_to_come x r.more) in
        let c : wanted_marks wanted (marks_first x item ways ++ marks_to_come x r.more) ≡ ticks_first o.made ++ wanted_marks wanted (o.left ++ marks_to_come x r.more) =
        ap (wanted_marks wanted) b ∙ wanted-ticks wanted o.made (o.left ++ marks_to_come x r.more) in
        let d : answer_from (answer_from spent.cost spent.looked o.made).cost (answer_from spent.cost spent.looked o.made).looked (wanted_marks wanted (o.left ++ marks_to_come x r.more)) ≡ answer =
        sym (through spent.cost spent.looked o.made (wanted_marks wanted (o.left ++ marks_to_come x r.more)))
        ∙ (ap (answer_from spent.cost spent.looked) (sym c) ∙ r.told) in
        let e = cost_up (answer_from spent.cost spent.looked o.made).cost (answer_from spent.cost spent.looked o.made).looked (wanted_marks wanted (o.left ++ marks_to_come x r.more)) in
        let f = ap (λ a. a.cost) d in
        omega (arith, o.over, r.budget_is)

    -- behind a step
    pub stepped : (went : Went) → IsStep x (height_of item) (marks_first x item ways) ways new spent later went → IsRunning x n wanted answer budget floor new later went
    stepped GoesOn s = goes GoesOn s
    stepped (Does next) s = goes (Does next) s
    stepped Ends s = goes Ends s
    stepped NoMore s = over s

  -- what is done at once
  pub at_once_done : (next : Next) → Running x n wanted answer budget floor ways spent (Does next) → Doing x n wanted answer budget floor ways spent (task_of next)
  at_once_done next r = record {
    more = r.more;
    pending = r.pending;
    told = r.told;
    on_text = r.sound.0.0;
    tasks = next-tasks x wanted n spent.cost [] ways.here.way.at next ways.here.todo r.sound.0.1;
    followed = r.sound.1;
    within = r.within;
    budget_is = r.budget_is;
  }

  -- where there is something to be done
  module _ (new : Ways Task) (item : Task) (r : Running x n wanted answer budget floor ways spent GoesOn) (e : ways.here.todo ≡ item ∷ new.here.todo) (w : new.here.way ≡ ways.here.way) (p : new.pending ≡ ways.pending) where
    taken_is : record new.here { todo = item ∷ new.here.todo } ≡ ways.here
    taken_is = rw (← e, w) refl

    taken_told : answer_from spent.cost spent.looked (wanted_marks wanted (marks_first x item new ++ marks_to_come x r.more)) ≡ answer
    taken_told = subst (λ t. answer_from spent.cost spent.looked (wanted_marks wanted (marks_to_come x (t ∷ r.more))) ≡ answer) (sym taken_is) r.told

    taken_sound : AreFollowed x wanted n spent.cost [] (record new.here { todo = item ∷ new.here.todo } ∷ r.more)
    taken_sound = subst (λ t. AreFollowed x wanted n spent.cost [] (t ∷ r.more)) (sym taken_is) r.sound

    pub taken : ((second : Bor Step) (begun : ℕ) → item ≡ Again second begun → ⊥) → Doing x n wanted answer budget floor new spent item
    taken other = record {
      more = r.more;
      pending = p ∙ r.pending;
      told = taken_told;
      on_text = taken_sound.0.0;
      tasks = item-tasks x wanted n spent.cost [] new.here.way.at item new.here.todo other taken_sound.0.1;
      followed = taken_sound.1;
      within = r.within;
      budget_is = r.budget_is;
    }

  -- the second part of a choice: without a tick since the first was begun, nothing comes of it
  module _ (new : Ways Task) (second : Bor Step) (begun : ℕ) (r : Running x n wanted answer budget floor ways spent GoesOn) (e : ways.here.todo ≡ Again second begun ∷ new.here.todo) (w : new.here.way ≡ ways.here.way) (p : new.pending ≡ ways.pending) where
    again_told : answer_from spent.cost spent.looked (wanted_marks wanted (marks_first x (Visit second) new ++ marks_to_come x r.more)) ≡ answer
    again_told = taken_told new (Again second begun) r e w p

    again_sound : AreFollowed x wanted n spent.cost [] (record new.here { todo = Again second begun ∷ new.here.todo } ∷ r.more)
    again_sound = taken_sound new (Again second begun) r e w p

    again_kept : IsKept x wanted n spent.cost [] new.here.way.at second begun new.here.todo
    again_kept = again_sound.0.1

    again_goes : Running x n wanted answer budget floor new spent (Does (at_once.Visit second))
    again_goes = record {
      more = r.more;
      pending = p ∙ r.pending;
      told = again_told;
      sound = ((again_sound.0.0, ((again_kept.numbers, again_kept.low), again_kept.tasks)), again_sound.1);
      within = r.within;
      budget_is = r.budget_is;
    }

    again_nothing : begun ≡ spent.cost → wanted_marks wanted (marks_first x (Visit second) new) ≡ []
    again_nothing same =
        let run = again_kept.tried same in
        let none : wanted_marks wanted (marks_with x new.here.todo run.way) ≡ [] = first-none _ run.rest (sym run.first ∙ wanted-none wanted) in
        followed-nothing wanted new.here.way.at (visits x (shape_of second.now) new.here.way) (marks_with x new.here.todo)
        (passing_all x (shape_of second.now) new.here.way again_kept.passing)
        (λ v at. nothing-again x wanted new.here.todo run.way v (run.place ∙ sym at) none)

    again_ends : begun ≡ spent.cost → Running x n wanted answer budget floor new spent Ends
    again_ends same =
        let none = again_nothing same in
        let told : wanted_marks wanted (marks_first x (Visit second) new ++ marks_to_come x r.more) ≡ wanted_marks wanted (marks_to_come x r.more) =
        wanted-append wanted (marks_first x (Visit second) new) (marks_to_come x r.more) ∙ ap (λ m. m ++ wanted_marks wanted (marks_to_come x r.more)) none in
        record {
          more = r.more;
          pending = p ∙ r.pending;
          told = sym (ap (answer_from spent.cost spent.looked) told) ∙ again_told;
          sound = later-followed x wanted n spent.cost spent.cost (omega arith) r.more (marks_first x (Visit second) new) [] (λ _. none ∙ sym (wanted-none wanted)) again_sound.1;
          within = r.within;
          budget_is = r.budget_is;
        }

    pub again_taken : (went : Went) → went ≡ going_again second begun spent.cost → IsRunning x n wanted answer budget floor new spent went
    again_taken went is =
        elim (cases_Bool (nat_eq spent.cost begun)) [
          | inl same ↦
              let at : begun ≡ spent.cost = grind (arith, nat_tests, same) in
              rw (is, same) (again_ends at)
          | inr other ↦ rw (is, other) again_goes
        ]

  -- a choice goes on with its first part
  module _ (new : Ways Task) (node a b : Bor Step) (r : Running x n wanted answer budget floor ways spent (Does (at_once.Visit node))) (k : shape_of node.now ≡ choice (shape_of a.now) (shape_of b.now)) where
    abbrev aside : Thread Task
    aside = record ways.here { todo = Again b spent.cost ∷ ways.here.todo }

    chosen_passes : (passes (fate_of (shape_of a.now)) ≡ true) × (passes (fate_of (shape_of b.now)) ≡ true)
    chosen_passes = choice_parts (shape_of a.now) (shape_of b.now) (rw k at r.sound.0.1.0.0)

    chosen_is : shape_of node.now ≡ or (shape_of a.now) (shape_of b.now)
    chosen_is = k ∙ choice_is (shape_of a.now) (shape_of b.now) chosen_passes.0 chosen_passes.1

    chosen_marks : marks_first x (Visit node) ways ≡ marks_first x (Visit a) ways ++ marks_of x aside
    chosen_marks =
        ap (λ s. followed (visits x s ways.here.way) (marks_with x ways.here.todo)) chosen_is
        ∙ followed-append (visits x (shape_of a.now) ways.here.way) (visits x (shape_of b.now) ways.here.way) (marks_with x ways.here.todo)

    chosen_kept : IsKept x wanted n spent.cost (marks_first x (Visit a) ways) ways.here.way.at b spent.cost ways.here.todo
    chosen_kept =
        let numbers : HasNumbers (shape_of a.now) × HasNumbers (shape_of b.now) = rw chosen_is at r.sound.0.1.0.0 in
        let high : height (shape_of node.now) ≡ max (height (shape_of a.now)) (height (shape_of b.now)) + 1 = rw chosen_is refl in
        let low = r.sound.0.1.0.1 in
        let first = passing_first x (shape_of a.now) ways.here.way chosen_passes.0 in
        record {
          numbers = numbers.1;
          low = omega arith;
          passing = chosen_passes.1;
          tasks = r.sound.0.1.1;
          since = omega arith;
          tried = λ _. record {
            way = first.0;
            place = first.1.1.1;
            rest = wanted_marks wanted (followed first.1.0 (marks_with x ways.here.todo));
            first =
                ap (λ m. wanted_marks wanted (followed m (marks_with x ways.here.todo))) first.1.1.0
                ∙ wanted-append wanted (marks_with x ways.here.todo first.0) (followed first.1.0 (marks_with x ways.here.todo));
          };
        }

    chosen_on : Running x n wanted answer budget floor (record ways { pending = aside ∷ ways.pending }) spent (Does (at_once.Visit a))
    chosen_on =
        let numbers : HasNumbers (shape_of a.now) × HasNumbers (shape_of b.now) = rw chosen_is at r.sound.0.1.0.0 in
        let high : height (shape_of node.now) ≡ max (height (shape_of a.now)) (height (shape_of b.now)) + 1 = rw chosen_is refl in
        let low = r.sound.0.1.0.1 in
        let all : marks_first x (Visit a) ways ++ (marks_of x aside ++ marks_to_come x r.more) ≡ marks_first x (Visit node) ways ++ marks_to_come x r.more =
        sym (append_assoc (marks_first x (Visit a) ways) (marks_of x aside) (marks_to_come x r.more)) ∙ ap (λ m. m ++ marks_to_come x r.more) (sym chosen_marks) in
        record {
          more = aside ∷ r.more;
          pending = ap (λ ps. aside ∷ ps) r.pending;
          told = ap (λ m. answer_from spent.cost spent.looked (wanted_marks wanted m)) all ∙ r.told;
          sound = (
            (r.sound.0.0, ((numbers.0, omega arith), r.sound.0.1.1)),
            ((r.sound.0.0, chosen_kept), subst (λ m. AreFollowed x wanted n spent.cost m r.more) chosen_marks r.sound.1),
          );
          within = r.within;
          budget_is = r.budget_is;
        }

    chosen_next : new ≡ record ways { pending = record ways.here { todo = Again b spent.cost ∷ ways.here.todo } ∷ ways.pending } → Running x n wanted answer budget floor new spent (Does (at_once.Visit a))
    chosen_next e = subst (λ v. Running x n wanted answer budget floor v spent (Does (at_once.Visit a))) (sym e) chosen_on

  pub chosen : (new : Ways Task) (next : Next) (a b : Bor Step) → IsChoice next a b → Running x n wanted answer budget floor ways spent (Does next) → new ≡ record ways { pending = record ways.here { todo = Again b spent.cost ∷ ways.here.todo } ∷ ways.pending } → Running x n wanted answer budget floor new spent (Does (at_once.Visit a))
  chosen new (at_once.Visit node) a b k r e = chosen_next new node a b r k e
  chosen new (at_once.Count t) a b k r e = absurd k
  chosen new (at_once.Look l) a b k r e = absurd k

  -- where nothing is left to be done, and the place isn't wanted
  pub passed : Running x n wanted answer budget floor ways spent GoesOn → ways.here.todo ≡ [] → is_wanted wanted ways.here.way.at ≡ false → Running x n wanted answer budget floor ways spent Ends
  passed r e w = record {
    more = r.more;
    pending = r.pending;
    told = sym (ap (answer_from spent.cost spent.looked) (wanted-other wanted ways.here.way (marks_to_come x r.more) w)) ∙ (rw e at r.told);
    sound =
        later-followed x wanted n spent.cost spent.cost (omega arith) r.more (marks_of x ways.here) []
        (λ _. rw e (wanted-other wanted ways.here.way [] w)) r.sound.1;
    within = r.within;
    budget_is = r.budget_is;
  }

  -- one is pending that is not among those at the call
  pub one_pending : (new : Ways Task) (b : Bool) → Running x n wanted answer budget floor ways spent Ends → length ways.pending ≢ length floor →
      (IsFalse b → (ways.pending ≡ []) × (new ≡ ways)) → (IsTrue b → ways.pending ≡ new.here ∷ new.pending) → ways.pending ≡ new.here ∷ new.pending
  one_pending new true r far none next = next (search rules)
  one_pending new false r far none next =
      let k : length ways.pending ≡ length r.more + length floor = ap length r.pending ∙ length-append r.more floor in
      let z : length ways.pending ≡ 0 = ap length (none (search rules)).0 in
      absurd (far (omega arith))

  -- where a way ends, the next one is taken up
  pub next_one : (new : Ways Task) → Running x n wanted answer budget floor ways spent Ends → length ways.pending ≢ length floor → ways.pending ≡ new.here ∷ new.pending → Running x n wanted answer budget floor new spent GoesOn
  next_one new r far e =
      elim r.more as (λ more. ways.pending ≡ more ++ floor → answer_from spent.cost spent.looked (wanted_marks wanted (marks_to_come x more)) ≡ answer → AreFollowed x wanted n spent.cost [] more → Running x n wanted answer budget floor new spent GoesOn) [
        | [] ↦ λ p t s. absurd (far (ap length p))
        | first ∷ more ↦ λ p t s.
            let h : new.here ≡ first = cc in
            let k : new.pending ≡ more ++ floor = cc in
            record {
              more = more;
              pending = k;
              told = rw h t;
              sound = rw h s;
              within = r.within;
              budget_is = r.budget_is;
            }
      ] r.pending r.told r.sound

-- at the start
pub started : (x : Context) (part : Bor Step) (wanted : Option Place) (old ways : Ways Task) (spent : Spent) → IsPlaceOf x.text old.here.way.at → HasNumbers (shape_of part.now) → spent.cost ≤ spent.budget →
    ways ≡ record old { here = record old.here { todo = [] } } →
    Running x (height (shape_of part.now)) wanted (answer_from spent.cost spent.looked (wanted_marks wanted (visits x (shape_of part.now) old.here.way))) spent.budget old.pending ways spent (Does (at_once.Visit part))
started x part wanted old ways spent on_text numbers within e =
    subst (λ ways. Running x (height (shape_of part.now)) wanted (answer_from spent.cost spent.looked (wanted_marks wanted (visits x (shape_of part.now) old.here.way))) spent.budget old.pending ways spent (Does (at_once.Visit part))) (sym e)
    (record {
      more = [];
      pending = refl;
      told = ap (λ m. answer_from spent.cost spent.looked (wanted_marks wanted m)) (append-nil _ ∙ followed-reach (visits x (shape_of part.now) old.here.way));
      sound = ((on_text, ((numbers, omega arith), tt)), tt);
      within = within;
      budget_is = refl;
    })

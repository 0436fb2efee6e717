-- A tick, and then a step from there: two parts, and the turns of a count of an atom.
use Rattle.std.proofs.Common.{◌≡◌, ℕ, ◌+◌, ◌-◌, ◌<◌, ◌≤◌, true, false, List, [], ◌∷◌, ◌++◌, refl, sym, ap, ◌∙◌, arith, append-nil}
use Rattle.std.specs.Prelude.{Option}
use Rattle.std.specs.Borrow.{Bor}
use Rattle.syn_base.specs.declared.looked.Looked.{Looked}
use Rattle.syn_base.specs.declared.places.Place.{Place}
use Rattle.pattern_items.specs.declared.atom.Atom.{Atom}
use Rattle.vim_pattern.specs.GroupNumbers.{HasNumbers}
use Rattle.vim_pattern.specs.Shape.{empty, one, seq, or}
use Rattle.match_rules.specs.Ways.{Context, Way, IsPlaceOf, is_after}
use Rattle.match_rules.specs.Atoms.{lines_looked, way_behind}
use Rattle.match_rules.specs.Marks.{Mark, Tick, Reach, followed}
use Rattle.match_rules.specs.Counts.{turns, after_turn, one_less, is_spent}
use Rattle.match_rules.specs.Visits.{visits, tried}
use Rattle.match_rules.proofs.MarkLaws.{followed-assoc}
use Rattle.match_rules.proofs.TurnLaws.{after_turn-took}
use Rattle.pattern_match.specs.declared.task.Task.{Task}
use Rattle.pattern_match.specs.declared.task.Task.TheVariants.{Visit, Count, Turn, AfterTurn}
use Rattle.pattern_match.specs.declared.task.Turns.{Turns}
use Rattle.pattern_match.specs.declared.task.Next.TheVariants as at_once
use Rattle.pattern_match.specs.declared.task.Went.{Went}
use Rattle.pattern_match.specs.declared.task.Went.TheVariants.{GoesOn, Does, Ends, TooCostly as NoMore}
use Rattle.pattern_match.specs.declared.spent.Spent.{Spent}
use Rattle.pattern_match.specs.declared.step.Step.{Step}
use Rattle.pattern_match.specs.Steps.{shape_of}
use Rattle.pattern_match.specs.Spending.{spent_on}
use Rattle.pattern_match.specs.Ways.{Ways}
use Rattle.pattern_match.specs.Machine.{task_marks, marks_with}
use Rattle.pattern_match.specs.Heights.{height}
use Rattle.pattern_match.specs.Search.{Goes, IsOver, IsStep, marks_first, IsTick}
use Rattle.pattern_match.proofs.Leading.{silent, leads_on, leads_do}
use Rattle.pattern_match.proofs.Counting.{count_spent, count_greedy, greedy_marks, turn_dropped}
use Rattle.pattern_match.proofs.Stepping.{way_behind-kept, behind, over, failed, turn_marks, turn_taken, turn_over}

module _ (x : Context) (high : ℕ) (marks left : List Mark) (looked : Looked) (old mid new : Ways Task) (earlier between later : Spent)
    (all : marks ≡ Tick looked ∷ left) (spent : between ≡ spent_on earlier (Tick looked ∷ [])) (pending : mid.pending ≡ old.pending)
    (todo : mid.here.todo ≡ old.here.todo) (kept : IsPlaceOf x.text old.here.way.at → IsPlaceOf x.text mid.here.way.at) where
  pub ticked_goes : (went : Went) → Goes x high left mid new between later went → Goes x high marks old new earlier later went
  ticked_goes went g = record {
    made = Tick looked ∷ g.made;
    left = g.left;
    all = all ∙ ap (λ r. Tick looked ∷ r) g.all;
    spent = g.spent ∙ ap (λ s. spent_on s g.made) spent;
    within = g.within;
    leads = record {
      more = g.leads.more;
      pending = g.leads.pending ∙ ap (λ ps. g.leads.more ++ ps) pending;
      same = g.leads.same;
      sound = λ n h p s. g.leads.sound n h (kept p) (rw todo s);
    };
  }

  pub ticked_step : (went : Went) → IsStep x high left mid new between later went → IsStep x high marks old new earlier later went
  ticked_step GoesOn g = ticked_goes GoesOn g
  ticked_step (Does item) g = ticked_goes (Does item) g
  ticked_step Ends g = ticked_goes Ends g
  ticked_step NoMore o = record {
    made = Tick looked ∷ o.made;
    left = o.left;
    all = all ∙ ap (λ r. Tick looked ∷ r) o.all;
    over = rw spent at o.over;
  }

-- ---- two parts

module _ (x : Context) (i j : Bor Step) (old : Ways Task) where
  abbrev both : List Mark
  both = followed (visits x (seq (shape_of i.now) (shape_of j.now)) old.here.way) (marks_with x old.here.todo)

  module _ (a : Atom) (k : shape_of i.now ≡ one a) (mid : Ways Task) (earlier between : Spent) where
    abbrev behind_it : Way → List Mark
    behind_it v = followed (visits x (shape_of j.now) v) (marks_with x old.here.todo)

    both_marks : both ≡ followed (tried x old.here.way a) behind_it
    both_marks =
        followed-assoc (visits x (shape_of i.now) old.here.way) (visits x (shape_of j.now)) (marks_with x old.here.todo)
        ∙ ap (λ s. followed (visits x s old.here.way) behind_it) k

    pub both_ticked : HasNumbers (shape_of j.now) → IsTick x a old mid earlier between GoesOn → Goes x (height (seq (shape_of i.now) (shape_of j.now))) both old mid earlier between (Does (at_once.Visit j))
    both_ticked numbers t =
        let high = height (seq (shape_of i.now) (shape_of j.now)) in
        let told = t.1.0 in
        let all : both ≡ Tick (lines_looked x old.here.way a) ∷ marks_first x (Visit j) mid = both_marks ∙ behind x a old mid earlier between behind_it t.0 told.place_is ∙ rw told.ways refl in
        ticked_goes x high both (marks_first x (Visit j) mid) (lines_looked x old.here.way a) old mid mid earlier between between all told.spent (rw told.ways refl) (rw told.ways refl)
        (λ p. rw told.ways (way_behind-kept x.text old.here.way t.0 a p t.1.1)) (Does (at_once.Visit j))
        (silent x high (marks_first x (Visit j) mid) mid mid between (Does (at_once.Visit j)) told.within (leads_do x high mid (at_once.Visit j) numbers (omega arith)))

    pub both_over : (went : Went) → IsTick x a old mid earlier between went → (went ≡ GoesOn → ⊥) → IsStep x (height (seq (shape_of i.now) (shape_of j.now))) both old mid earlier between went
    both_over GoesOn t h = absurd (h refl)
    both_over (Does item) t h = absurd t
    both_over Ends t h = rw both_marks (failed x a old mid earlier between (height (seq (shape_of i.now) (shape_of j.now))) behind_it t)
    both_over NoMore t h = rw both_marks (over x a old mid earlier between t behind_it)

  -- where the one has one tick alone
  abbrev either : List Mark
  either = followed (visits x (or (shape_of i.now) (shape_of j.now)) old.here.way) (marks_with x old.here.todo)

  module _ (looked : Looked) (fails : visits x (shape_of i.now) old.here.way ≡ Tick looked ∷ []) (earlier : Spent) where
    either_marks : either ≡ Tick looked ∷ marks_first x (Visit j) old
    either_marks = ap (λ marks. followed (marks ++ visits x (shape_of j.now) old.here.way) (marks_with x old.here.todo)) fails

    pub either_passed : HasNumbers (shape_of j.now) → (later : Spent) → later ≡ spent_on earlier (Tick looked ∷ []) → earlier.cost < earlier.budget → Goes x (height (or (shape_of i.now) (shape_of j.now))) either old old earlier later (Does (at_once.Visit j))
    either_passed numbers later spent within =
        let high = height (or (shape_of i.now) (shape_of j.now)) in
        let low : later.cost ≤ later.budget = rw spent (omega arith) in
        ticked_goes x high either (marks_first x (Visit j) old) looked old old old earlier later later either_marks spent refl refl (λ p. p) (Does (at_once.Visit j))
        (silent x high (marks_first x (Visit j) old) old old later (Does (at_once.Visit j)) low (leads_do x high old (at_once.Visit j) numbers (omega arith)))

    pub either_over : earlier.budget ≤ earlier.cost → IsOver either earlier
    either_over h = record { made = Tick looked ∷ []; left = marks_first x (Visit j) old; all = either_marks; over = omega arith }

-- a part that has one tick alone, or nothing
module _ (x : Context) (i : Bor Step) (old : Ways Task) (looked : Looked)
    (fails : visits x (shape_of i.now) old.here.way ≡ Tick looked ∷ []) (earlier : Spent) where
  abbrev or_nothing : List Mark
  or_nothing = followed (visits x (or (shape_of i.now) empty) old.here.way) (marks_with x old.here.todo)

  or_nothing-marks : or_nothing ≡ Tick looked ∷ followed (Reach old.here.way ∷ []) (marks_with x old.here.todo)
  or_nothing-marks = ap (λ marks. followed (marks ++ Reach old.here.way ∷ []) (marks_with x old.here.todo)) fails

  pub optional_passed : (later : Spent) → later ≡ spent_on earlier (Tick looked ∷ []) → earlier.cost < earlier.budget → Goes x (height (or (shape_of i.now) empty)) or_nothing old old earlier later GoesOn
  optional_passed later spent within =
      let high = height (or (shape_of i.now) empty) in
      let low : later.cost ≤ later.budget = rw spent (omega arith) in
      ticked_goes x high or_nothing _ looked old old old earlier later later or_nothing-marks spent refl refl (λ p. p) GoesOn
      (silent x high _ old old later GoesOn low (leads_on x high old old old.here.way refl (λ p. p)))

  pub optional_over : earlier.budget ≤ earlier.cost → IsOver or_nothing earlier
  optional_over h = record { made = Tick looked ∷ []; left = followed (Reach old.here.way ∷ []) (marks_with x old.here.todo); all = or_nothing-marks; over = omega arith }

-- ---- the turns of a greedy count of an atom

-- a turn that has one tick alone
module _ (x : Context) (t : Turns) (old : Ways Task) (numbers : HasNumbers (shape_of t.part.now)) (on_text : IsPlaceOf x.text old.here.way.at)
    (unspent : is_spent t.most ≡ false) (free : t.least ≡ 0) (greedy : t.lazy ≡ false) (looked : Looked)
    (fails : visits x (shape_of t.part.now) old.here.way ≡ Tick looked ∷ []) (earlier : Spent) where
  no_turn-marks : marks_first x (Count t) old ≡ Tick looked ∷ followed (Reach old.here.way ∷ []) (marks_with x old.here.todo)
  no_turn-marks =
      greedy_marks x t old numbers on_text unspent free greedy
      ∙ (ap (λ marks. followed (followed marks (task_marks x (AfterTurn t old.here.way.at))) (marks_with x old.here.todo) ++ marks_with x old.here.todo old.here.way) fails
      ∙ ap (λ marks. Tick looked ∷ marks) (sym (append-nil (marks_with x old.here.todo old.here.way))))

  pub no_turn-passed : (later : Spent) → later ≡ spent_on earlier (Tick looked ∷ []) → earlier.cost < earlier.budget → Goes x (height (shape_of t.part.now) + 1) (marks_first x (Count t) old) old old earlier later GoesOn
  no_turn-passed later spent within =
      let high = height (shape_of t.part.now) + 1 in
      let low : later.cost ≤ later.budget = rw spent (omega arith) in
      ticked_goes x high (marks_first x (Count t) old) _ looked old old old earlier later later no_turn-marks spent refl refl (λ p. p) GoesOn
      (silent x high _ old old later GoesOn low (leads_on x high old old old.here.way refl (λ p. p)))

  pub no_turn-over : earlier.budget ≤ earlier.cost → IsOver (marks_first x (Count t) old) earlier
  no_turn-over h = record { made = Tick looked ∷ []; left = followed (Reach old.here.way ∷ []) (marks_with x old.here.todo); all = no_turn-marks; over = omega arith }

-- what the count has come to: a step from there is one of the whole count
pub record IsCounting (x : Context) (t : Turns) (old : Ways Task) (earlier : Spent) (most : Option ℕ) (ways : Ways Task) (spent : Spent) : Type 0 where
  pub on_text : IsPlaceOf x.text ways.here.way.at
  pub within : spent.cost ≤ spent.budget
  pub leads : (new : Ways Task) (later : Spent) (went : Went) →
      IsStep x (height (shape_of t.part.now) + 1) (marks_first x (Count (record t { most = most })) ways) ways new spent later went →
      IsStep x (height (shape_of t.part.now) + 1) (marks_first x (Count t) old) old new earlier later went

pub counting_starts : (x : Context) (t : Turns) (old : Ways Task) (earlier : Spent) → IsPlaceOf x.text old.here.way.at → earlier.cost ≤ earlier.budget → IsCounting x t old earlier t.most old earlier
counting_starts x t old earlier on_text within = record { on_text = on_text; within = within; leads = λ new later went step. step }

module _ (x : Context) (t : Turns) (old : Ways Task) (earlier : Spent) (most : Option ℕ) (ways : Ways Task) (spent : Spent) (c : IsCounting x t old earlier most ways spent) (numbers : HasNumbers (shape_of t.part.now)) where
  abbrev turn_on : Turns
  turn_on = record t { most = most }

  pub counting_spent : is_spent most ≡ true → Goes x (height (shape_of t.part.now) + 1) (marks_first x (Count t) old) old ways earlier spent GoesOn
  counting_spent e = c.leads ways spent GoesOn (count_spent x turn_on ways numbers c.on_text spent c.within e)

  module _ (a : Atom) (k : shape_of t.part.now ≡ one a) (unspent : is_spent most ≡ false) (free : t.least ≡ 0) (greedy : t.lazy ≡ false)
      (aside mid : Ways Task) (between : Spent) (put : aside ≡ record ways { pending = ways.here ∷ ways.pending }) (from : Place) (from_is : from ≡ aside.here.way.at) where
    abbrev high : ℕ
    high = height (shape_of t.part.now) + 1

    pub counting_over : (went : Went) → IsTick x a aside mid spent between went → (went ≡ GoesOn → ⊥) → IsStep x high (marks_first x (Count t) old) old mid earlier between went
    counting_over went tick other =
        c.leads mid between went
        (count_greedy x turn_on ways numbers c.on_text aside mid spent between went unspent free greedy put (turn_over x a aside mid spent between high turn_on k went tick other))

    pub counting_dropped : IsTick x a aside mid spent between GoesOn → is_after mid.here.way.at from ≡ false → Goes x high (marks_first x (Count t) old) old mid earlier between Ends
    counting_dropped tick after =
        c.leads mid between Ends
        (count_greedy x turn_on ways numbers c.on_text aside mid spent between Ends unspent free greedy put
        (turn_taken x a aside mid spent between high turn_on k from Ends from_is tick tt (turn_dropped x turn_on mid numbers from after free)))

    turn_marks_are : (tick : IsTick x a aside mid spent between GoesOn) → is_after mid.here.way.at from ≡ true →
        marks_first x (Turn turn_on) aside ≡ Tick (lines_looked x aside.here.way a) ∷ marks_first x (Count (record t { most = one_less most })) mid
    turn_marks_are tick after =
        let told = tick.1.0 in
        let way : mid.here.way ≡ way_behind aside.here.way tick.0 a = rw told.ways refl in
        let todo : mid.here.todo ≡ aside.here.todo = rw told.ways refl in
        let low : t.least - 1 ≡ t.least = omega arith in
        let first = Tick (lines_looked x aside.here.way a) in
        let part = visits x (shape_of t.part.now) in
        let took = after_turn-took x.text (visits x (shape_of t.part.now)) t.lazy t.least most aside.here.way.at mid.here.way (rw from_is at after) in
        turn_marks x a aside mid spent between high turn_on k
        ∙ behind x a aside mid spent between (λ v. followed (task_marks x (AfterTurn turn_on aside.here.way.at) v) (marks_with x aside.here.todo)) tick.0 told.place_is
        ∙ ap (λ w. first ∷ followed (after_turn x.text part t.lazy t.least most aside.here.way.at w) (marks_with x aside.here.todo)) (sym way)
        ∙ ap (λ m. first ∷ followed m (marks_with x aside.here.todo)) took
        ∙ ap (λ n. first ∷ followed (turns x.text part t.lazy n (one_less most) mid.here.way) (marks_with x aside.here.todo)) low
        ∙ ap (λ ts. first ∷ followed (turns x.text part t.lazy t.least (one_less most) mid.here.way) (marks_with x ts)) (sym todo)

    pub counting_on : (tick : IsTick x a aside mid spent between GoesOn) → is_after mid.here.way.at from ≡ true → IsCounting x t old earlier (one_less most) mid between
    counting_on tick after =
        let told = tick.1.0 in
        record {
          on_text = rw told.ways (way_behind-kept x.text aside.here.way tick.0 a (rw put c.on_text) tick.1.1);
          within = told.within;
          leads = λ new later went step.
              c.leads new later went
              (count_greedy x turn_on ways numbers c.on_text aside new spent later went unspent free greedy put
              (ticked_step x high (marks_first x (Turn turn_on) aside) (marks_first x (Count (record t { most = one_less most })) mid) (lines_looked x aside.here.way a) aside mid new spent between later
              (turn_marks_are tick after) told.spent (rw told.ways refl) (rw told.ways refl) (λ p. rw told.ways (way_behind-kept x.text aside.here.way tick.0 a p tick.1.1)) went step));
        }

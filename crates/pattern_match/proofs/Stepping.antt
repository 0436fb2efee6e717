-- Steps: an atom, and a turn of a count whose part is one.
use Rattle.std.proofs.Common.{◌≡◌, ℕ, ◌≤◌, List, [], ◌∷◌, refl, ap, ◌∙◌, arith, subst, append-nil}
use Rattle.std.specs.Prelude.{Some, None}
use Rattle.syn_base.specs.declared.places.Place.{Place}
use Rattle.pattern_items.specs.declared.atom.Atom.{Atom}
use Rattle.pattern_items.specs.declared.atom.Atom.TheVariants.{MatchStart, MatchStop}
use Rattle.match_rules.specs.Ways.{Text, Context, Way, IsPlaceOf}
use Rattle.match_rules.specs.Atoms.{fits, lines_looked, way_behind}
use Rattle.match_rules.specs.Marks.{Mark, Tick, followed}
use Rattle.match_rules.specs.Visits.{visits, tried, behind_fit}
use Rattle.vim_pattern.specs.Shape.{one}
use Rattle.match_rules.proofs.MarkLaws.{followed-assoc}
use Rattle.pattern_match.specs.declared.task.Task.{Task}
use Rattle.pattern_match.specs.declared.task.Task.TheVariants.{Turn, AfterTurn}
use Rattle.pattern_match.specs.declared.task.Turns.{Turns}
use Rattle.pattern_match.specs.Steps.{shape_of}
use Rattle.pattern_match.specs.declared.task.Went.{Went}
use Rattle.pattern_match.specs.declared.task.Went.TheVariants.{GoesOn, Does, Ends, TooCostly as NoMore}
use Rattle.pattern_match.specs.declared.spent.Spent.{Spent}
use Rattle.pattern_match.specs.Ways.{Ways}
use Rattle.pattern_match.specs.Machine.{task_marks, marks_with}
use Rattle.pattern_match.specs.Search.{Leads, Goes, IsOver, IsStep, IsLed, marks_first, IsTicked, IsTick}
use Rattle.pattern_match.proofs.Leading.{led, leads_on, leads_nowhere}

pub way_behind-kept : (text : Text) (w : Way) (p : Place) (a : Atom) → IsPlaceOf text w.at → IsPlaceOf text p → IsPlaceOf text (way_behind w p a).at
way_behind-kept text w p MatchStart h k = h
way_behind-kept text w p MatchStop h k = h
way_behind-kept text w p _ h k = k

module _ (x : Context) (a : Atom) (old new : Ways Task) (earlier later : Spent) where
  -- what follows the atom where it has led to a place, and where it hasn't
  pub behind : (next : Way → List Mark) (p : Place) → fits x old.here.way a ≡ Some p → followed (tried x old.here.way a) next ≡ Tick (lines_looked x old.here.way a) ∷ next (way_behind old.here.way p a)
  behind next p e = rw e (ap (λ r. Tick (lines_looked x old.here.way a) ∷ r) (append-nil (next (way_behind old.here.way p a))))

  nothing_behind : (next : Way → List Mark) → fits x old.here.way a ≡ None → followed (tried x old.here.way a) next ≡ Tick (lines_looked x old.here.way a) ∷ []
  nothing_behind next e = rw e refl

  pub over : earlier.budget ≤ earlier.cost → (next : Way → List Mark) → IsOver (followed (tried x old.here.way a) next) earlier
  over h next = record {
    made = Tick (lines_looked x old.here.way a) ∷ [];
    left = followed (behind_fit old.here.way a (fits x old.here.way a)) next;
    all = refl;
    over = omega arith;
  }

  -- an atom and what is still to be done
  module _ (high : ℕ) where
    fitted : (p : Place) → IsTicked x a old new earlier later (Some p) (way_behind old.here.way p a) → IsPlaceOf x.text p → Goes x high (followed (tried x old.here.way a) (marks_with x old.here.todo)) old new earlier later GoesOn
    fitted p t on_text = record {
      made = Tick (lines_looked x old.here.way a) ∷ [];
      left = marks_with x old.here.todo (way_behind old.here.way p a);
      all = behind (marks_with x old.here.todo) p t.place_is;
      spent = t.spent;
      within = t.within;
      leads = subst (λ m. Leads x high m old new GoesOn) (append-nil (marks_with x old.here.todo (way_behind old.here.way p a)))
          (leads_on x high old new (way_behind old.here.way p a) t.ways (λ h. way_behind-kept x.text old.here.way p a h on_text));
    }

    pub failed : (next : Way → List Mark) → IsTicked x a old new earlier later None old.here.way → Goes x high (followed (tried x old.here.way a) next) old new earlier later Ends
    failed next t = record {
      made = Tick (lines_looked x old.here.way a) ∷ [];
      left = [];
      all = nothing_behind next t.place_is;
      spent = t.spent;
      within = t.within;
      leads = rw t.ways (leads_nowhere x high old);
    }

    pub atom_step : (went : Went) → IsTick x a old new earlier later went → IsStep x high (followed (tried x old.here.way a) (marks_with x old.here.todo)) old new earlier later went
    atom_step GoesOn t = fitted t.0 t.1.0 t.1.1
    atom_step (Does item) t = absurd t
    atom_step Ends t = failed (marks_with x old.here.todo) t
    atom_step NoMore t = over t (marks_with x old.here.todo)

    -- a turn of a count whose part is an atom
    module _ (t : Turns) (part : shape_of t.part.now ≡ one a) where
      pub turn_marks : marks_first x (Turn t) old ≡ followed (tried x old.here.way a) (λ v. followed (task_marks x (AfterTurn t old.here.way.at) v) (marks_with x old.here.todo))
      turn_marks =
          followed-assoc (visits x (shape_of t.part.now) old.here.way) (task_marks x (AfterTurn t old.here.way.at)) (marks_with x old.here.todo)
          ∙ ap (λ s. followed (visits x s old.here.way) (λ v. followed (task_marks x (AfterTurn t old.here.way.at) v) (marks_with x old.here.todo))) part

      taken : (from : Place) (went : Went) (p : Place) → from ≡ old.here.way.at → IsTicked x a old new earlier later (Some p) (way_behind old.here.way p a) → IsPlaceOf x.text p →
          Leads x high (marks_first x (AfterTurn t from) new) new new went → Goes x high (marks_first x (Turn t) old) old new earlier later went
      taken from went p e i on_text l = record {
        made = Tick (lines_looked x old.here.way a) ∷ [];
        left = followed (task_marks x (AfterTurn t old.here.way.at) (way_behind old.here.way p a)) (marks_with x old.here.todo);
        all = turn_marks ∙ behind (λ v. followed (task_marks x (AfterTurn t old.here.way.at) v) (marks_with x old.here.todo)) p i.place_is;
        spent = i.spent;
        within = i.within;
        leads = record {
          more = l.more;
          pending = l.pending ∙ rw i.ways refl;
          same = l.same ∙ rw (i.ways, e) refl;
          sound = λ n h k s. l.sound n h (rw i.ways (way_behind-kept x.text old.here.way p a k on_text)) (rw i.ways s);
        };
      }

      pub turn_taken : (from : Place) (went : Went) → from ≡ old.here.way.at → IsTick x a old new earlier later GoesOn → IsLed went → Leads x high (marks_first x (AfterTurn t from) new) new new went →
          IsStep x high (marks_first x (Turn t) old) old new earlier later went
      turn_taken from went e i h l = led x high (marks_first x (Turn t) old) old new earlier later went h (taken from went i.0 e i.1.0 i.1.1 l)

      pub turn_over : (went : Went) → IsTick x a old new earlier later went → (went ≡ GoesOn → ⊥) → IsStep x high (marks_first x (Turn t) old) old new earlier later went
      turn_over GoesOn i h = absurd (h refl)
      turn_over (Does item) i h = absurd i
      turn_over Ends i h = rw turn_marks (failed (λ v. followed (task_marks x (AfterTurn t old.here.way.at) v) (marks_with x old.here.todo)) i)
      turn_over NoMore i h = rw turn_marks (over i (λ v. followed (task_marks x (AfterTurn t old.here.way.at) v) (marks_with x old.here.todo)))

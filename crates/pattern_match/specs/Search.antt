-- How a search for the first way goes: step by step the ways that are pending take the place of what
-- the pattern still tries and reaches.
use Rattle.std.specs.Prelude.{◌≡◌, ℕ, ◌≤◌, ◌<◌, Bool, true, false, List, [], ◌∷◌, ◌++◌, Option, Some, None, nat_eq, if◌then◌else◌}
use Rattle.std.specs.Borrow.{Bor}
use Rattle.syn_base.specs.declared.places.Place.{Place}
use Rattle.pattern_items.specs.declared.atom.Atom.{Atom}
use Rattle.match_rules.specs.Ways.{Context, Way, IsPlaceOf, is_same_place}
use Rattle.match_rules.specs.Atoms.{fits, lines_looked, way_behind}
use Rattle.match_rules.specs.Marks.{Mark, Tick, followed, ticks_first}
use Rattle.match_rules.specs.Looks.{ending_at}
use Rattle.match_rules.specs.Attempt.{answer_from}
use Rattle.pattern_match.specs.declared.task.Task.{Task}
use Rattle.pattern_match.specs.declared.task.Task.TheVariants.{Visit, Count, Look}
use Rattle.pattern_match.specs.declared.task.Next.{Next}
use Rattle.pattern_match.specs.declared.task.Next.TheVariants as at_once
use Rattle.pattern_match.specs.declared.task.Went.{Went}
use Rattle.pattern_match.specs.declared.task.Went.TheVariants.{GoesOn, Does, Ends, TooCostly as NoMore}
use Rattle.pattern_match.specs.declared.search.Sought.{Sought}
use Rattle.pattern_match.specs.declared.search.Sought.TheVariants.{Found, Absent, TooCostly}
use Rattle.pattern_match.specs.declared.look.Ending.{Ending}
use Rattle.pattern_match.specs.declared.look.Ending.TheVariants as ending
use Rattle.pattern_match.specs.declared.spent.Spent.{Spent}
use Rattle.pattern_match.specs.declared.step.Step.{Step}
use Rattle.pattern_match.specs.Fates.{choice}
use Rattle.pattern_match.specs.Steps.{shape_of}
use Rattle.pattern_match.specs.Spending.{spent_on}
use Rattle.pattern_match.specs.Ways.{Thread, Ways}
use Rattle.pattern_match.specs.Machine.{task_marks, marks_with, marks_to_come}
use Rattle.pattern_match.specs.Heights.{AreTasks, AreSound}

-- ---- a step

-- what is done at once, as a thing to be done
abbrev pub task_of : Next → Task
task_of (at_once.Visit s) = Visit s
task_of (at_once.Count t) = Count t
task_of (at_once.Look l) = Look l

-- the present way as it goes on, and the other ways that a step has put before the pending ones
abbrev pub going : Went → Thread Task → List (Thread Task) → List (Thread Task)
going GoesOn t more = t ∷ more
going (Does next) t more = record t { todo = task_of next ∷ t.todo } ∷ more
going Ends t more = more
going NoMore t more = more

-- ways that try and reach these marks have taken the place of the present one
pub record Leads (x : Context) (high : ℕ) (marks : List Mark) (old new : Ways Task) (went : Went)
    : Type 0 where
  pub more : List (Thread Task)
  pub pending : new.pending ≡ more ++ old.pending
  pub same : marks_to_come x (going went new.here more) ≡ marks
  pub sound : (n : ℕ) → high ≤ n → IsPlaceOf x.text old.here.way.at → AreTasks n old.here.todo →
      AreSound x.text n (going went new.here more)

-- some ticks were made, and the ways lead to all that is left of the marks
pub record Goes (x : Context) (high : ℕ) (marks : List Mark) (old new : Ways Task)
    (earlier later : Spent) (went : Went) : Type 0 where
  pub made : List Mark
  pub left : List Mark
  pub all : marks ≡ ticks_first made ++ left
  pub spent : later ≡ spent_on earlier made
  pub within : later.cost ≤ later.budget
  pub leads : Leads x high left old new went

-- there are more ticks first than the budget allows
pub record IsOver (marks : List Mark) (earlier : Spent) : Type 0 where
  pub made : List Mark
  pub left : List Mark
  pub all : marks ≡ ticks_first made ++ left
  pub over : earlier.budget < (spent_on earlier made).cost

abbrev pub IsLed : Went → Type 0
IsLed NoMore = ⊥
IsLed went = Unit {0}

abbrev pub IsStep : Context → ℕ → List Mark → Ways Task → Ways Task → Spent → Spent → Went → Type 0
IsStep x high marks old new earlier later NoMore = IsOver marks earlier
IsStep x high marks old new earlier later went = Goes x high marks old new earlier later went

-- a choice is followed, whose parts are these
abbrev pub IsChoice : Next → (first second : Bor Step) → Type 0
IsChoice (at_once.Visit s) first second =
    shape_of s.now ≡ choice (shape_of first.now) (shape_of second.now)
IsChoice _ first second = ⊥

-- how a way goes on whose second part is followed, if there was a tick since the cost was `before`
abbrev pub going_again : Bor Step → (before cost : ℕ) → Went
going_again s before cost = if nat_eq cost before then Ends else Does (at_once.Visit s)

-- what a way tries and reaches that does an item first
abbrev pub marks_first : Context → Task → Ways Task → List Mark
marks_first x item ways = followed (task_marks x item ways.here.way) (marks_with x ways.here.todo)

-- ---- an atom

abbrev pub moved : Ways Task → Way → Ways Task
moved ways w = record ways { here = record ways.here { way = w } }

pub record IsTicked (x : Context) (a : Atom) (old new : Ways Task) (earlier later : Spent)
    (place : Option Place) (way : Way) : Type 0 where
  pub place_is : fits x old.here.way a ≡ place
  pub ways : new ≡ moved old way
  pub spent : later ≡ spent_on earlier (Tick (lines_looked x old.here.way a) ∷ [])
  pub within : later.cost ≤ later.budget

abbrev pub IsTick : Context → Atom → Ways Task → Ways Task → Spent → Spent → Went → Type 0
IsTick x a old new earlier later GoesOn =
    (p : Place) × (IsTicked x a old new earlier later (Some p) (way_behind old.here.way p a) ×
    IsPlaceOf x.text p)
IsTick x a old new earlier later (Does next) = ⊥
IsTick x a old new earlier later Ends = IsTicked x a old new earlier later None old.here.way
IsTick x a old new earlier later NoMore = earlier.budget ≤ earlier.cost

-- ---- a search

-- the ways at the place that is wanted alone
abbrev pub wanted_marks : Option Place → List Mark → List Mark
wanted_marks None marks = marks
wanted_marks (Some p) marks = ending_at p marks

abbrev pub is_wanted : Option Place → Place → Bool
is_wanted None at = true
is_wanted (Some p) at = is_same_place at p

-- the search of these marks has ended with a way, or with none; the pending ways are still those
pub record HasEnded (marks : List Mark) (old new : Ways Task) (earlier later : Spent)
    (way : Option Way) : Type 0 where
  pub answer : answer_from earlier.cost earlier.looked marks
      ≡ record { way = way; cost = later.cost; looked = later.looked }
  pub budget : later.budget ≡ earlier.budget
  pub within : later.cost ≤ later.budget
  pub pending : new.pending ≡ old.pending

abbrev pub IsSearch : List Mark → Ways Task → Ways Task → Spent → Spent → Sought → Type 0
IsSearch marks old new earlier later Found =
    HasEnded marks old new earlier later (Some new.here.way)
IsSearch marks old new earlier later Absent = HasEnded marks old new earlier later None
IsSearch marks old new earlier later TooCostly =
    earlier.budget < (answer_from earlier.cost earlier.looked marks).cost

-- ---- looks

-- how a way goes on behind the look, where its part has come to this way or to none
abbrev pub behind_look : Ending → Bool → Thread Task → Way → List (Thread Task)
behind_look (ending.Look true) true t found = []
behind_look (ending.Look true) false t found = t ∷ []
behind_look (ending.Look false) true t found =
    record { todo = t.todo; way = record found { at = t.way.at } } ∷ []
behind_look (ending.Look false) false t found = []
behind_look ending.Whole true t found = record { todo = t.todo; way = found } ∷ []
behind_look ending.Whole false t found = []

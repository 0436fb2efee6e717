-- What is known of the ways that a search has still to follow. Where one begins with the second part of
-- a choice, those above it begin with what came of the first part, as long as there was no tick.
use Rattle.std.proofs.Common.{◌≡◌, ℕ, ◌≤◌, List, [], ◌∷◌, ◌++◌, refl, sym, ap, ◌∙◌, arith, subst, append_assoc, append-nil}
use Rattle.std.specs.Prelude.{Option, Some, None, true}
use Rattle.std.specs.Borrow.{Bor}
use Rattle.syn_base.specs.declared.places.Place.{Place}
use Rattle.vim_pattern.specs.GroupNumbers.{HasNumbers}
use Rattle.match_rules.specs.Ways.{Context, Way, IsPlaceOf}
use Rattle.match_rules.specs.Marks.{Mark, Tick, Reach, followed}
use Rattle.pattern_match.specs.declared.step.Step.{Step}
use Rattle.pattern_match.specs.declared.task.Task.{Task}
use Rattle.pattern_match.specs.declared.task.Task.TheVariants.{Visit, Count, Turn, AfterTurn, Look, Close, CloseExternal, Again}
use Rattle.pattern_match.specs.declared.task.Next.{Next}
use Rattle.pattern_match.specs.declared.task.Next.TheVariants as at_once
use Rattle.pattern_match.specs.Fates.{fate_of, passes}
use Rattle.pattern_match.specs.Steps.{shape_of}
use Rattle.pattern_match.specs.Ways.{Thread}
use Rattle.pattern_match.specs.Machine.{marks_with, marks_of, marks_to_come}
use Rattle.pattern_match.specs.Heights.{height, AreTasks, AreSound}
use Rattle.pattern_match.specs.Search.{task_of, wanted_marks}
use Rattle.pattern_match.proofs.AlikeLaws.{wanted-append}
use Rattle.pattern_match.proofs.FateLaws.{AreAllAt}

-- these marks begin with what comes of the items on a way at a place
pub record IsRun (x : Context) (wanted : Option Place) (above : List Mark) (at : Place)
    (items : List Task) : Type 0 where
  pub way : Way
  pub place : way.at ≡ at
  pub rest : List Mark
  pub first : wanted_marks wanted above ≡ wanted_marks wanted (marks_with x items way) ++ rest

-- the second part of a choice whose first part was begun at a cost
pub record IsKept (x : Context) (wanted : Option Place) (n cost : ℕ) (above : List Mark) (at : Place)
    (second : Bor Step) (begun : ℕ) (items : List Task) : Type 0 where
  pub numbers : HasNumbers (shape_of second.now)
  pub low : height (shape_of second.now) ≤ n
  pub passing : passes (fate_of (shape_of second.now)) ≡ true
  pub tasks : AreTasks n items
  pub since : begun ≤ cost
  pub tried : begun ≡ cost → IsRun x wanted above at items

abbrev pub IsFollowed : Context → Option Place → (n cost : ℕ) → List Mark → Place → List Task →
    Type 0
IsFollowed x wanted n cost above at [] = Unit {0}
IsFollowed x wanted n cost above at (Again second begun ∷ items) =
    IsKept x wanted n cost above at second begun items
IsFollowed x wanted n cost above at (item ∷ items) = AreTasks n (item ∷ items)

-- the ways from the present one on, below others with these marks
abbrev pub AreFollowed : Context → Option Place → (n cost : ℕ) → List Mark →
    List (Thread Task) → Type 0
AreFollowed x wanted n cost above [] = Unit {0}
AreFollowed x wanted n cost above (t ∷ threads) =
    (IsPlaceOf x.text t.way.at × IsFollowed x wanted n cost above t.way.at t.todo) ×
    AreFollowed x wanted n cost (above ++ marks_of x t) threads

module _ (x : Context) (wanted : Option Place) (n : ℕ) where
  -- ---- tasks of other kinds

  tasks-followed : (cost : ℕ) (above : List Mark) (at : Place) (todo : List Task) →
      AreTasks n todo → IsFollowed x wanted n cost above at todo
  tasks-followed cost above at [] h = tt
  tasks-followed cost above at (Visit s ∷ items) h = h
  tasks-followed cost above at (Count t ∷ items) h = h
  tasks-followed cost above at (Turn t ∷ items) h = h
  tasks-followed cost above at (AfterTurn t from ∷ items) h = h
  tasks-followed cost above at (Look l ∷ items) h = h
  tasks-followed cost above at (Close number from ∷ items) h = h
  tasks-followed cost above at (CloseExternal number from ∷ items) h = h
  tasks-followed cost above at (Again second begun ∷ items) h = absurd h.0.0

  pub sound-followed : (cost : ℕ) (above : List Mark) (threads : List (Thread Task)) →
      AreSound x.text n threads → AreFollowed x wanted n cost above threads
  sound-followed cost above [] h = tt
  sound-followed cost above (t ∷ threads) h = (
    (h.0.0, tasks-followed cost above t.way.at t.todo h.0.1),
    sound-followed cost (above ++ marks_of x t) threads h.1,
  )

  pub item-tasks : (cost : ℕ) (above : List Mark) (at : Place) (item : Task) (todo : List Task) →
      ((second : Bor Step) (begun : ℕ) → item ≡ Again second begun → ⊥) →
      IsFollowed x wanted n cost above at (item ∷ todo) → AreTasks n (item ∷ todo)
  item-tasks cost above at (Visit s) todo other h = h
  item-tasks cost above at (Count t) todo other h = h
  item-tasks cost above at (Turn t) todo other h = h
  item-tasks cost above at (AfterTurn t from) todo other h = h
  item-tasks cost above at (Look l) todo other h = h
  item-tasks cost above at (Close number from) todo other h = h
  item-tasks cost above at (CloseExternal number from) todo other h = h
  item-tasks cost above at (Again second begun) todo other h = absurd (other second begun refl)

  pub next-tasks : (cost : ℕ) (above : List Mark) (at : Place) (next : Next) (todo : List Task) →
      IsFollowed x wanted n cost above at (task_of next ∷ todo) → AreTasks n (task_of next ∷ todo)
  next-tasks cost above at (at_once.Visit s) todo h = h
  next-tasks cost above at (at_once.Count t) todo h = h
  next-tasks cost above at (at_once.Look l) todo h = h

  -- ---- other marks above

  pub followed-append-threads : (cost : ℕ) (above : List Mark) (a b : List (Thread Task)) →
      AreFollowed x wanted n cost above a →
      AreFollowed x wanted n cost (above ++ marks_to_come x a) b →
      AreFollowed x wanted n cost above (a ++ b)
  followed-append-threads cost above [] b h k =
      subst (λ m. AreFollowed x wanted n cost m b) (append-nil above) k
  followed-append-threads cost above (t ∷ a) b h k = (
    h.0,
    followed-append-threads cost (above ++ marks_of x t) a b h.1
        (subst (λ m. AreFollowed x wanted n cost m b)
        (sym (append_assoc above (marks_of x t) (marks_to_come x a))) k),
  )

  -- behind a tick nothing is known of them; else they may differ in ways that aren't wanted
  module _ (cost later : ℕ) (up : cost ≤ later) where
    kept-later : (above after : List Mark) (at : Place) (second : Bor Step) (begun : ℕ)
        (items : List Task) →
        (later ≡ cost → wanted_marks wanted above ≡ wanted_marks wanted after) →
        IsKept x wanted n cost above at second begun items →
        IsKept x wanted n later after at second begun items
    kept-later above after at second begun items same k =
        let since : begun ≤ cost = k.since in
        record {
          numbers = k.numbers;
          low = k.low;
          passing = k.passing;
          tasks = k.tasks;
          since = omega arith;
          tried = λ e.
              let run = k.tried (omega arith) in
              record {
                way = run.way;
                place = run.place;
                rest = run.rest;
                first = sym (same (omega arith)) ∙ run.first;
              };
        }

    thread-later : (above after : List Mark) (at : Place) (todo : List Task) →
        (later ≡ cost → wanted_marks wanted above ≡ wanted_marks wanted after) →
        IsFollowed x wanted n cost above at todo → IsFollowed x wanted n later after at todo
    thread-later above after at [] same h = tt
    thread-later above after at (Visit s ∷ items) same h = h
    thread-later above after at (Count t ∷ items) same h = h
    thread-later above after at (Turn t ∷ items) same h = h
    thread-later above after at (AfterTurn t from ∷ items) same h = h
    thread-later above after at (Look l ∷ items) same h = h
    thread-later above after at (Close number from ∷ items) same h = h
    thread-later above after at (CloseExternal number from ∷ items) same h = h
    thread-later above after at (Again second begun ∷ items) same h =
        kept-later above after at second begun items same h

    pub later-followed : (threads : List (Thread Task)) (above after : List Mark) →
        (later ≡ cost → wanted_marks wanted above ≡ wanted_marks wanted after) →
        AreFollowed x wanted n cost above threads → AreFollowed x wanted n later after threads
    later-followed [] above after same h = tt
    later-followed (t ∷ threads) above after same h = (
      (h.0.0, thread-later above after t.way.at t.todo same h.0.1),
      later-followed threads (above ++ marks_of x t) (after ++ marks_of x t)
          (λ e. wanted-append wanted above (marks_of x t)
          ∙ (ap (λ m. m ++ wanted_marks wanted (marks_of x t)) (same e)
          ∙ sym (wanted-append wanted after (marks_of x t)))) h.1,
    )

-- ---- ways at a place behind which nothing comes

pub first-none : (a b : List Mark) → a ++ b ≡ [] → a ≡ []
first-none [] b e = refl
first-none (m ∷ a) b e = absurd (cc e)

wanted-nothing : (wanted : Option Place) → wanted_marks wanted [] ≡ []
wanted-nothing None = refl
wanted-nothing (Some p) = refl

pub followed-nothing : (wanted : Option Place) (p : Place) (marks : List Mark)
    (next : Way → List Mark) → AreAllAt p marks →
    ((v : Way) → v.at ≡ p → wanted_marks wanted (next v) ≡ []) →
    wanted_marks wanted (followed marks next) ≡ []
followed-nothing wanted p [] next h k = wanted-nothing wanted
followed-nothing wanted p (Tick l ∷ marks) next h k = absurd h
followed-nothing wanted p (Reach w ∷ marks) next h k =
    wanted-append wanted (next w) (followed marks next)
    ∙ (ap (λ m. m ++ wanted_marks wanted (followed marks next)) (k w h.0)
    ∙ followed-nothing wanted p marks next h.1 k)

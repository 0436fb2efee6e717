-- Turns of a greedy count that are made at once: each of them takes a character of the line.
use Rattle.std.specs.Prelude.{◌≡◌, ℕ, ◌+◌, ◌<◌, ◌≤◌, true, IsTrue, Option, Some, None, All, length, take, drop}
use Rattle.syn_base.specs.declared.places.Place.{Place}
use Rattle.pattern_items.specs.declared.atom.Atom.{Atom}
use Rattle.pattern_screens.specs.PlainAtoms.{is_plain, plain_takes}
use Rattle.match_rules.specs.Ways.{Context, line_at}
use Rattle.match_rules.specs.Atoms.{own_line}
use Rattle.match_rules.specs.Counts.{less_by}
use Rattle.pattern_match.specs.declared.task.Task.{Task}
use Rattle.pattern_match.specs.declared.spent.Spent.{Spent}
use Rattle.pattern_match.specs.Spending.{spent_times}
use Rattle.pattern_match.specs.Ways.{Ways, run_aside}

-- an atom of characters takes so many from a place on, one behind the other
pub record IsRun (x : Context) (a : Atom) (p : Place) (count : ℕ) : Type 0 where
  pub plain : 0 < count → is_plain a ≡ true
  pub within : p.col + count ≤ length (line_at x.text p.line)
  pub taken : All (λ c. IsTrue (plain_takes x.sets x.ignore a c))
      (take count (drop p.col (line_at x.text p.line)))

-- a count allows so many turns more
abbrev pub AreAllowed : Option ℕ → ℕ → Type 0
AreAllowed None turns = Unit {0}
AreAllowed (Some most) turns = turns ≤ most

-- a way is pending at each place where the count may stop, and each turn is a tick
pub record HasRun (x : Context) (a : Atom) (most left : Option ℕ) (old new : Ways Task)
    (earlier later : Spent) : Type 0 where
  pub count : ℕ
  pub run : IsRun x a old.here.way.at count
  pub allowed : AreAllowed most count
  pub fewer : left ≡ less_by most count
  pub ways : new ≡ run_aside old count
  pub spent : later ≡ spent_times earlier count (own_line old.here.way)
  pub within : later.cost ≤ later.budget

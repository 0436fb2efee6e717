-- A short look: what a node and what follows it come to, told up to the first way.
use Rattle.std.specs.Prelude.{◌≡◌, ◌≤◌, ◌<◌, ◌+◌, ◌++◌, ℕ, zero, suc, length, Bool, true, false, List, [], ◌∷◌, Option, Some, None, IfSome}
use Rattle.syn_base.specs.declared.places.Place.{Place}
use Rattle.vim_pattern.specs.Shape.{one}
use Rattle.match_rules.specs.Ways.{Context, Text, Way, IsPlaceOf, line_at}
use Rattle.pattern_items.specs.declared.atom.Atom.{Atom}
use Rattle.pattern_items.specs.declared.atom.Atom.TheVariants.{MatchStart, MatchStop, Ref, ExternalRef}
use Rattle.match_rules.specs.Atoms.{fits, lines_looked, own_line}
use Rattle.match_rules.specs.Marks.{Mark, Tick, Reach, followed}
use Rattle.match_rules.specs.Counts.{after_turn, turns}
use Rattle.match_rules.specs.Looks.{ending_at}
use Rattle.match_rules.specs.Attempt.{answer_from}
use Rattle.match_rules.specs.Visits.{visits, noted, noted_external}
use Rattle.pattern_match.specs.declared.sight.Rest.{Rest}
use Rattle.pattern_match.specs.declared.sight.Rest.TheVariants as rest
use Rattle.pattern_match.specs.declared.sight.Saw.{Saw}
use Rattle.pattern_match.specs.declared.sight.Saw.TheVariants.{Reached, InVain, TooFar}
use Rattle.pattern_match.specs.declared.sight.Sight.{Sight}
use Rattle.pattern_match.specs.declared.spent.Spent.{Spent}
use Rattle.pattern_match.specs.declared.task.Turns.{Turns}
use Rattle.pattern_match.specs.Spending.{spent_on}
use Rattle.pattern_match.specs.Runs.{AreAllowed, IsRun}
use Rattle.pattern_match.specs.Steps.{shape_of}
use Rattle.pattern_match.specs.Ways.{columns_on, way_noted, with_note}
use Rattle.pattern_match.specs.declared.ways.Note.{Note}

-- the turns of a count that are left, and those behind one that began at a place
abbrev pub turns_of : Context → Turns → Way → List Mark
turns_of x t w = turns x.text (visits x (shape_of t.part.now)) t.lazy t.least t.most w

abbrev pub turns_behind : Context → Turns → Place → Way → List Mark
turns_behind x t from w =
    after_turn x.text (visits x (shape_of t.part.now)) t.lazy t.least t.most from w

-- the next turn of a count, and those that are left behind it
abbrev pub turn_of : Context → Turns → Way → List Mark
turn_of x t w = followed (visits x (shape_of t.part.now) w) (turns_behind x t w.at)

-- the turns that are left at a place behind one that began at another, if the way goes on
abbrev pub AreTurnsLeft : Turns → Place → Place → Option Turns → Type 0
AreTurnsLeft t from at None =
    (x : Context) (w : Way) → w.at ≡ at → turns_behind x t from w ≡ []
AreTurnsLeft t from at (Some u) = (u.part ≡ t.part) ×
    ((x : Context) (w : Way) → w.at ≡ at → turns_behind x t from w ≡ turns_of x u w)

-- so many turns of a count of an atom take a character of the line each, from a place on
pub record AreTaken (x : Context) (t : Turns) (p : Place) (count : ℕ) : Type 0 where
  pub run : 0 < count → (a : Atom) × ((shape_of t.part.now ≡ one a) × IsRun x a p count)
  pub allowed : AreAllowed t.most count
  pub within : p.col + count ≤ length (line_at x.text p.line)

-- what follows the stops before so many turns, each of one column, the last stop first
abbrev pub stops_of : (Way → List Mark) → Way → ℕ → List Mark
stops_of f w zero = []
stops_of f w (suc turns) = f (record w { at = columns_on w.at turns }) ++ stops_of f w turns

-- what a way still tries and reaches
abbrev pub marks_behind : Context → Rest → Way → List Mark
marks_behind x rest.End w = Reach w ∷ []
marks_behind x (rest.EndAt p) w = ending_at p (Reach w ∷ [])
marks_behind x (rest.Then' s p r) w = followed (visits x (shape_of s.now) w) (marks_behind x r)
marks_behind x (rest.AfterTurn' t from p r) w =
    followed (turns_behind x t.now from w) (marks_behind x r)
marks_behind x (rest.Close' number from p r) w =
    followed (noted number from w) (marks_behind x r)
marks_behind x (rest.CloseExternal' number from p r) w =
    followed (noted_external number from w) (marks_behind x r)

-- these marks come to a first way, or to none
abbrev pub ComesTo : List Mark → Spent → Spent → Option Way → Type 0
ComesTo marks old new way =
    answer_from old.cost old.looked marks ≡ record { way = way; cost = new.cost; looked = new.looked }

-- that was seen of the marks of a way, if it was: the first way is that one with the notes that were
-- taken, at the place of the look
abbrev pub IsSeen : Way → List Mark → Sight → Sight → Saw → Type 0
IsSeen w marks old new Reached =
    (notes : List Note) × ((new.notes.items ≡ old.notes.items ++ notes)
    × ComesTo marks old.spent new.spent (Some (way_noted w notes new.at)))
IsSeen w marks old new InVain =
    (new.notes.items ≡ old.notes.items) × ComesTo marks old.spent new.spent None
IsSeen w marks old new TooFar = Unit {0}

-- the same of a look that had taken no note
abbrev pub IsFirst : Way → List Mark → Spent → Sight → Saw → Type 0
IsFirst w marks old new Reached =
    ComesTo marks old new.spent (Some (way_noted w new.notes.items new.at))
IsFirst w marks old new InVain = ComesTo marks old new.spent None
IsFirst w marks old new TooFar = Unit {0}

-- an atom that asks for the text of a group
abbrev pub asks_for_group : Atom → Bool
asks_for_group (Ref number) = true
asks_for_group (ExternalRef number) = true
asks_for_group _ = false

-- an atom that notes its place
abbrev pub notes_place : Atom → Bool
notes_place MatchStart = true
notes_place MatchStop = true
notes_place _ = false

-- at a place such an atom takes this note
abbrev pub IsNoteOf : Atom → Place → Note → Type 0
IsNoteOf a p note =
    (x : Context) (w : Way) → w.at ≡ p →
    visits x (one a) w ≡ Tick (own_line w) ∷ Reach (with_note w note) ∷ []

-- an atom that notes nothing was tried, and leads to this place, if to one
pub record IsTried (x : Context) (a : Atom) (w : Way) (old new : Sight) (place : Option Place)
    : Type 0 where
  pub place_is : fits x w a ≡ place
  pub spent : new.spent ≡ spent_on old.spent (Tick (lines_looked x w a) ∷ [])
  pub notes : new.notes.items ≡ old.notes.items
  pub plain : IfSome place (λ p. notes_place a ≡ false)

abbrev pub IsAtomSeen : Context → Atom → Way → Sight → Sight → Saw → Type 0
IsAtomSeen x a w old new Reached = IsTried x a w old new (Some new.at)
IsAtomSeen x a w old new InVain = IsTried x a w old new None
IsAtomSeen x a w old new TooFar = new ≡ old

-- a short look stands on the text, within its budget
pub record Stands (text : Text) (s : Sight) : Type 0 where
  pub on_text : IsPlaceOf text s.at
  pub within : s.spent.cost ≤ s.spent.budget

-- it goes on with no more nodes left, and the same budget
pub record GoesOn (text : Text) (old new : Sight) : Type 0 where
  pub stands : Stands text new
  pub left : new.left ≤ old.left
  pub budget : new.spent.budget ≡ old.spent.budget

-- Parts that stay in a line: where their ways end.
use Rattle.std.proofs.Common.{◌≡◌, ◌≤◌, ℕ, true, List, [], ◌∷◌, ◌++◌, length, false, arith}
use Rattle.std.specs.Prelude.{Option, Some, None}
use Rattle.std.proofs.lemmas.Bool.{and_parts}
use Rattle.syn_base.specs.declared.looked.Looked.{Looked}
use Rattle.syn_base.specs.declared.places.Place.{Place}
use Rattle.vim_pattern.specs.Shape.{Shape, empty, one, seq, or, and, group, external, repeat, ahead, before, whole}
use Rattle.match_rules.specs.Ways.{Context, Way, line_at}
use Rattle.match_rules.specs.Looks.{look, look_end}
use Rattle.match_rules.specs.Marks.{Mark, Tick, Reach, first_way, ticks_first}
use Rattle.match_rules.specs.Visits.{noted, noted_external, visits}
use Rattle.match_rules.proofs.AllMarks.{AllMarks, AllMarks-append, AllMarks-followed, look-all, turns-all, whole-all}
use Rattle.match_rules.proofs.MarkLaws.{AllWays}
use Rattle.pattern_screens.proofs.Bounded.{AllTicks}
use Rattle.pattern_screens.proofs.LinedParts.{IsIn, lined}
use Rattle.pattern_screens.proofs.Stands.{LooksAt}
use Rattle.pattern_needs.specs.LineCosts.{stays}
use Rattle.pattern_needs.proofs.Forwards.{IsLater, goes-forwards}

-- ---- marks in a line

abbrev StayIn : Context → ℕ → List Mark → Type 0
StayIn x line marks = AllMarks (LooksAt line) (λ v. IsIn x line v.at) marks

both-all : (Q : Looked → Type 0) (P : Way → Type 0) (marks : List Mark) → AllWays P marks → AllTicks Q marks → AllMarks Q P marks
both-all Q P [] h k = tt
both-all Q P (Tick l ∷ marks) h k = (k.0, both-all Q P marks h k.1)
both-all Q P (Reach w ∷ marks) h k = (h.0, both-all Q P marks h.1 k)

ticks-of-all : (Q : Looked → Type 0) (P : Way → Type 0) (marks : List Mark) → AllMarks Q P marks → AllTicks Q marks
ticks-of-all Q P [] h = tt
ticks-of-all Q P (Tick l ∷ marks) h = (h.0, ticks-of-all Q P marks h.1)
ticks-of-all Q P (Reach w ∷ marks) h = ticks-of-all Q P marks h.1

ways-in : (Q : Looked → Type 0) (P : Way → Type 0) (marks : List Mark) → AllMarks Q P marks → AllWays P marks
ways-in Q P [] h = tt
ways-in Q P (Tick l ∷ marks) h = ways-in Q P marks h.1
ways-in Q P (Reach w ∷ marks) h = (h.0, ways-in Q P marks h.1)

-- the ways behind a look are where it stands
looked-at : (P : Place → Type 0) (w : Way) (o : Option Way) → P w.at → AllWays (λ v. P v.at) (look_end false w o)
looked-at P w None h = tt
looked-at P w (Some v) h = (h, tt)

ticks-then : (P : Way → Type 0) (a b : List Mark) → AllWays P b → AllWays P (ticks_first a ++ b)
ticks-then P [] b h = h
ticks-then P (Tick l ∷ a) b h = ticks-then P a b h
ticks-then P (Reach w ∷ a) b h = h

pub look-stays : (P : Place → Type 0) (w : Way) (marks : List Mark) → P w.at → AllWays (λ v. P v.at) (look false w marks)
look-stays P w marks h = ticks-then (λ v. P v.at) marks (look_end false w (first_way marks)) (looked-at P w (first_way marks) h)

module _ (x : Context) (line : ℕ) where
  abbrev In : Way → Type 0
  In v = IsIn x line v.at

  stay : (node : Shape) → stays node ≡ true → (w : Way) → In w → StayIn x line (visits x node w)
  stay empty e w h = (h, tt)
  stay (one a) e w h = let fits = lined x line (one a) e w h in both-all (LooksAt line) In (visits x (one a) w) fits.here fits.seen
  stay (seq a b) e w h =
      let f = and_parts (stays a) (stays b) e in
      AllMarks-followed (LooksAt line) In In (visits x a w) (visits x b) (stay a f.0 w h) (λ v i. stay b f.1 v i)
  stay (or a b) e w h =
      let f = and_parts (stays a) (stays b) e in
      AllMarks-append (LooksAt line) In (visits x a w) (visits x b w) (stay a f.0 w h) (stay b f.1 w h)
  stay (and a b) e w h =
      let f = and_parts (stays a) (stays b) e in
      AllMarks-followed (LooksAt line) In In _ (visits x b) (look-all (LooksAt line) In In false w h (λ v i. h) (visits x a w) (stay a f.0 w h)) (λ v i. stay b f.1 v i)
  stay (group part number) e w h =
      AllMarks-followed (LooksAt line) In In (visits x part w) (noted number w.at) (stay part e w h) (λ v i. (i, tt))
  stay (external part number) e w h =
      AllMarks-followed (LooksAt line) In In (visits x part w) (noted_external number w.at) (stay part e w h) (λ v i. (i, tt))
  stay (repeat part least most lazy) e w h =
      turns-all (LooksAt line) In x.text (visits x part) lazy (λ v i. stay part e v i) least most w h
  stay (ahead part negative) e w h =
      look-all (LooksAt line) In In negative w h (λ v i. h) (visits x part w) (stay part e w h)
  stay (before part negative limit) e w h = absurd (cc)
  stay (whole part) e w h = whole-all (LooksAt line) In (visits x part w) (stay part e w h)

  -- a part that stays in its line ends there, and looks at it alone
  pub stay-ways : (node : Shape) → stays node ≡ true → (w : Way) → IsIn x line w.at → AllWays (λ v. IsIn x line v.at) (visits x node w)
  stay-ways node e w h = ways-in (LooksAt line) In (visits x node w) (stay node e w h)

  pub stay-looks : (node : Shape) → stays node ≡ true → (w : Way) → IsIn x line w.at → AllTicks (LooksAt line) (visits x node w)
  stay-looks node e w h = ticks-of-all (LooksAt line) In (visits x node w) (stay node e w h)

-- ---- places from a column of a line on

pub record IsFrom (x : Context) (line col : ℕ) (p : Place) : Type 0 where
  pub on : p.line ≡ line
  pub within : p.col ≤ length (line_at x.text line)
  pub from : col ≤ p.col

pub in-line : (x : Context) (line from : ℕ) (p : Place) → IsFrom x line from p → IsIn x line p
in-line x line from p h = record { on = h.on; within = h.within }

from-later : (x : Context) (line from : ℕ) (w : Way) (marks : List Mark) → IsFrom x line from w.at → AllWays (λ v. IsIn x line v.at) marks → AllWays (IsLater w.at) marks → AllWays (λ v. IsFrom x line from v.at) marks
from-later x line from w [] h k l = tt
from-later x line from w (Tick s ∷ marks) h k l = from-later x line from w marks h k l
from-later x line from w (Reach v ∷ marks) h k l =
    let same : w.at.line ≡ v.at.line = omega (arith, h.on, k.0.on) in
    (record { on = k.0.on; within = k.0.within; from = omega (arith, h.from, l.0.col same) }, from-later x line from w marks h k.1 l.1)

-- the ways of a part from the column on are in the line, from the column on
pub ways-from : (x : Context) (line from : ℕ) (node : Shape) → stays node ≡ true → (w : Way) → IsFrom x line from w.at → AllWays (λ v. IsFrom x line from v.at) (visits x node w)
ways-from x line from node e w at =
    from-later x line from w (visits x node w) at (stay-ways x line node e w (in-line x line from w.at at)) (goes-forwards x node w)

pub ways-onwards : (x : Context) (line : ℕ) (node : Shape) → stays node ≡ true → (w : Way) → IsIn x line w.at → AllWays (λ v. IsFrom x line w.at.col v.at) (visits x node w)
ways-onwards x line node e w h = ways-from x line w.at.col node e w (record { on = h.on; within = h.within; from = omega arith })

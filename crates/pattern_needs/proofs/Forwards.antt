-- Each way of a pattern ends where it began, or behind that.
use Rattle.std.proofs.Common.{false, List, [], ◌∷◌}
use Rattle.std.specs.Prelude.{Option, Some, None}
use Rattle.syn_base.specs.declared.looked.Looked.{Looked}
use Rattle.syn_base.specs.declared.places.Place.{Place}
use Rattle.pattern_items.specs.declared.atom.Atom.{Atom}
use Rattle.pattern_items.specs.declared.atom.Atom.TheVariants.{Char, Any, Is, Set, LineEnd, LineStart, LineStop, WordStart, WordStop, FileStart, FileStop, MatchStart, MatchStop, LineNumber, Ref, ExternalRef}
use Rattle.vim_pattern.specs.Shape.{Shape, empty, one, seq, or, and, group, external, repeat, ahead, before, whole}
use Rattle.match_rules.specs.Ways.{Context, Way}
use Rattle.match_rules.specs.Atoms.{fits, way_behind}
use Rattle.match_rules.specs.Marks.{Mark, Tick, Reach}
use Rattle.match_rules.specs.Looks.{look, tried_behind}
use Rattle.match_rules.specs.Visits.{visits, behind_fit, noted, noted_external}
use Rattle.match_rules.proofs.AllMarks.{AllMarks, AllMarks-append, AllMarks-followed, look-all, turns-all, whole-all}
use Rattle.match_rules.proofs.Forwards.{IsForwardsOrNone, fits-forwards, further_on, stays}
use Rattle.match_rules.proofs.MarkLaws.{AllWays}
use Rattle.match_rules.proofs.Walks.{IsForwards}

abbrev pub Anything : Looked → Type 0
Anything l = Unit {0}

abbrev Anywhere : Way → Type 0
Anywhere w = Unit {0}

abbrev pub IsLater : Place → Way → Type 0
IsLater p w = IsForwards p w.at

all-anywhere : (marks : List Mark) → AllMarks Anything Anywhere marks
all-anywhere [] = tt
all-anywhere (Tick l ∷ marks) = (tt, all-anywhere marks)
all-anywhere (Reach w ∷ marks) = (tt, all-anywhere marks)

atom-later : (p : Place) (w : Way) (q : Place) (a : Atom) → IsLater p w → IsForwards p q → IsLater p (way_behind w q a)
atom-later p w q (Char c) h k = k
atom-later p w q (Any takes_end) h k = k
atom-later p w q (Is class negative takes_end) h k = k
atom-later p w q (Set ranges) h k = k
atom-later p w q LineEnd h k = k
atom-later p w q LineStart h k = k
atom-later p w q LineStop h k = k
atom-later p w q WordStart h k = k
atom-later p w q WordStop h k = k
atom-later p w q FileStart h k = k
atom-later p w q FileStop h k = k
atom-later p w q MatchStart h k = h
atom-later p w q MatchStop h k = h
atom-later p w q (LineNumber how number) h k = k
atom-later p w q (Ref number) h k = k
atom-later p w q (ExternalRef number) h k = k

fit-later : (p : Place) (w : Way) (a : Atom) (o : Option Place) → IsLater p w → IsForwardsOrNone w.at o →
    AllMarks Anything (IsLater p) (behind_fit w a o)
fit-later p w a None h k = tt
fit-later p w a (Some q) h k = (atom-later p w q a h (further_on p w.at q h k), tt)

later : (x : Context) (node : Shape) (p : Place) (w : Way) → IsLater p w → AllMarks Anything (IsLater p) (visits x node w)
later x empty p w h = (h, tt)
later x (one a) p w h = (tt, fit-later p w a (fits x w a) h (fits-forwards x w a))
later x (seq a b) p w h =
    AllMarks-followed Anything (IsLater p) (IsLater p) (visits x a w) (visits x b) (later x a p w h) (λ v k. later x b p v k)
later x (or a b) p w h =
    AllMarks-append Anything (IsLater p) (visits x a w) (visits x b w) (later x a p w h) (later x b p w h)
later x (and a b) p w h =
    AllMarks-followed Anything (IsLater p) (IsLater p) (look false w (visits x a w)) (visits x b)
    (look-all Anything (IsLater p) (IsLater p) false w h (λ v k. h) (visits x a w) (later x a p w h)) (λ v k. later x b p v k)
later x (group part number) p w h =
    AllMarks-followed Anything (IsLater p) (IsLater p) (visits x part w) (noted number w.at) (later x part p w h) (λ v k. (k, tt))
later x (external part number) p w h =
    AllMarks-followed Anything (IsLater p) (IsLater p) (visits x part w) (noted_external number w.at) (later x part p w h) (λ v k. (k, tt))
later x (repeat part least most lazy) p w h =
    turns-all Anything (IsLater p) x.text (visits x part) lazy (λ v k. later x part p v k) least most w h
later x (ahead part negative) p w h =
    look-all Anything (IsLater p) (IsLater p) negative w h (λ v k. h) (visits x part w) (later x part p w h)
later x (before part negative limit) p w h =
    look-all Anything Anywhere (IsLater p) negative w h (λ v k. h) (tried_behind x.text (visits x part) limit w) (all-anywhere (tried_behind x.text (visits x part) limit w))
later x (whole part) p w h = whole-all Anything (IsLater p) (visits x part w) (later x part p w h)

pub ways-of-all : (P : Way → Type 0) (marks : List Mark) → AllMarks Anything P marks → AllWays P marks
ways-of-all P [] h = tt
ways-of-all P (Tick l ∷ marks) h = ways-of-all P marks h.1
ways-of-all P (Reach w ∷ marks) h = (h.0, ways-of-all P marks h.1)

pub goes-forwards : (x : Context) (node : Shape) (w : Way) → AllWays (IsLater w.at) (visits x node w)
goes-forwards x node w = ways-of-all (IsLater w.at) (visits x node w) (later x node w.at w (stays w.at))

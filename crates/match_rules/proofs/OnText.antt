-- From a place of the text a pattern reaches ways that stand on it, no sooner, and looks at its lines.
use Rattle.std.proofs.Common.{◌≡◌, ℕ, zero, suc, ◌≤◌, Bool, true, false, List, [], ◌∷◌, length, get_or, set, replicate, refl, arith}
use Rattle.std.specs.Prelude.{Option, Some, None, pos, negsuc, ◌-ℤ◌, ◌≤ℤ◌, if◌then◌else◌}
use Rattle.std.proofs.lemmas.Int.{ints}
use Rattle.std.proofs.lemmas.Bool.Decides.{nat_tests}
use Rattle.syn_base.specs.declared.looked.Looked.{Looked}
use Rattle.syn_base.specs.declared.places.Place.{Place}
use Rattle.syn_base.specs.Looked.{hull_of, one_line}
use Rattle.pattern_items.specs.declared.atom.Atom.{Atom}
use Rattle.pattern_items.specs.declared.atom.Atom.TheVariants.{FileStart, FileStop, MatchStart, MatchStop, LineNumber, Ref, ExternalRef}
use Rattle.pattern_items.specs.declared.item.Behind.{Behind}
use Rattle.vim_pattern.specs.Tree.{PatternTree}
use Rattle.vim_pattern.specs.Shape.{Shape, empty, one, seq, or, and, group, external, repeat, ahead, before, whole}
use Rattle.match_rules.specs.Ways.{Text, Context, Capture, Way, way_from, IsPlaceOf, is_after}
use Rattle.match_rules.specs.Atoms.{Piece, behind_piece, last_line_of, group_text, external_text, fits, own_line, lines_from, line_behind, lines_looked}
use Rattle.match_rules.specs.Marks.{Mark, Tick, Reach}
use Rattle.match_rules.specs.Looks.{look, ending_at, from_each, starts_behind, tried_behind}
use Rattle.match_rules.specs.Attempt.{answer_from, answer_of, for_tree, or_place, match_from}
use Rattle.match_rules.specs.OnText.{IsStretchOf, IsCaptureOf, IsMatchOf, AreLinesAbout, StaysOn, StaysOnText}
use Rattle.match_rules.specs.Visits.{visits, tried, behind_fit, noted, noted_external}
use Rattle.match_rules.proofs.AllMarks.{AllMarks, AllMarks-append, AllMarks-followed, AllMarks-map, turns-all, look-all, whole-all, ending_at-all, from_each-all, looking_at-all}
use Rattle.match_rules.proofs.Forwards.{stays, further_on, in_order, IsForwardsOrNone, fits-forwards}
use Rattle.match_rules.proofs.Kept.{IsPlaceOrNone, behind_piece-kept, fits-kept}
use Rattle.match_rules.proofs.Outset.{Covers, covers-hull, Outset, outset}
use Rattle.match_rules.proofs.Starts.{Each, IsElsewhere, other_starts, others-elsewhere, starts-first}
use Rattle.match_rules.proofs.Walks.{IsForwards}

-- ---- lines

-- from the line before the first up to the one behind the last
pub record AreWithin (text : Text) (l : Looked) : Type 0 where
  pub least : negsuc 0 ≤ℤ l.low
  pub most : l.high ≤ℤ pos (length text)

one-within : (text : Text) (l : ℕ) → l ≤ length text → AreWithin text (one_line (pos l))
one-within text l h = record { least = omega (arith, ints); most = omega (arith, ints) }

before-within : (text : Text) (l : ℕ) → l ≤ length text → AreWithin text (one_line (pos l -ℤ pos 1))
before-within text l h = record { least = omega (arith, ints); most = omega (arith, ints) }

hull-within : (text : Text) (a b : Looked) → AreWithin text a → AreWithin text b →
    AreWithin text (hull_of a b)
hull-within text a b h k = record {
  least = grind (arith, ints, h.least, k.least);
  most = grind (arith, ints, h.most, k.most);
}

last_line-within : (x : Context) (pieces : List Piece) (p : Place) → IsPlaceOf x.text p →
    last_line_of x pieces p ≤ length x.text
last_line-within x [] p h = h.line
last_line-within x (piece ∷ pieces) p h =
    elim (behind_piece x piece p) as (λ o. IsPlaceOrNone x.text o →
    (elim o as (λ _. ℕ) [ None ↦ p.line | Some q ↦ last_line_of x pieces q ]) ≤ length x.text) [
      | None ↦ λ _. h.line
      | Some q ↦ λ k. last_line-within x pieces q k
    ] (behind_piece-kept x piece p h)

line_behind-within : (text : Text) (l : ℕ) → l ≤ length text → line_behind text l ≤ length text
line_behind-within text l h = grind (arith, nat_tests)

from-within : (text : Text) (low high : ℕ) → low ≤ length text → high ≤ length text →
    AreWithin text (lines_from low high)
from-within text low high h k =
    hull-within text (one_line (pos low)) (one_line (pos high)) (one-within text low h)
    (one-within text high k)

lines_looked-within : (x : Context) (w : Way) (a : Atom) → IsPlaceOf x.text w.at →
    AreWithin x.text (lines_looked x w a)
lines_looked-within x w FileStart h =
    hull-within x.text (own_line w) (one_line (pos w.at.line -ℤ pos 1))
    (one-within x.text w.at.line h.line) (before-within x.text w.at.line h.line)
lines_looked-within x w FileStop h = from-within x.text w.at.line (line_behind x.text w.at.line)
    h.line (line_behind-within x.text w.at.line h.line)
lines_looked-within x w (Ref number) h =
    from-within x.text w.at.line (last_line_of x (group_text x w number) w.at) h.line
    (last_line-within x (group_text x w number) w.at h)
lines_looked-within x w (ExternalRef number) h =
    from-within x.text w.at.line (last_line_of x (external_text x number) w.at) h.line
    (last_line-within x (external_text x number) w.at h)
lines_looked-within x w (LineNumber how number) h =
    let own = one-within x.text w.at.line h.line in record { least = own.least; most = own.most }
lines_looked-within x w _ h = one-within x.text w.at.line h.line

-- ---- what a way notes

abbrev CapturesOn : Text → List Capture → Type 0
CapturesOn text [] = Unit {0}
CapturesOn text (c ∷ cs) = IsCaptureOf text c × CapturesOn text cs

captures-none : (text : Text) (n : ℕ) → CapturesOn text (replicate n None)
captures-none text zero = tt
captures-none text (suc n) = (tt, captures-none text n)

captures-get : (text : Text) (cs : List Capture) (i : ℕ) → CapturesOn text cs →
    IsCaptureOf text (get_or cs i None)
captures-get text [] i h = tt
captures-get text (c ∷ cs) zero h = h.0
captures-get text (c ∷ cs) (suc i) h = captures-get text cs i h.1

captures-set : (text : Text) (cs : List Capture) (i : ℕ) (c : Capture) → IsCaptureOf text c →
    CapturesOn text cs → CapturesOn text (set cs i c)
captures-set text [] i c k h = tt
captures-set text (d ∷ cs) zero c k h = (k, h.1)
captures-set text (d ∷ cs) (suc i) c k h = (h.0, captures-set text cs i c k h.1)

record NotesOn (text : Text) (w : Way) : Type 0 where
  captures : CapturesOn text w.captures
  start : IsPlaceOrNone text w.start
  stop : IsPlaceOrNone text w.stop

-- a way on the text, at a place or further on
record WayOn (text : Text) (p : Place) (w : Way) : Type 0 where
  at : IsPlaceOf text w.at
  forwards : IsForwards p w.at
  notes : NotesOn text w

-- what is noted doesn't depend on the place
notes-at : (text : Text) (w : Way) (p : Place) → NotesOn text w → NotesOn text (record w { at = p })
notes-at text w p h = record { captures = h.captures; start = h.start; stop = h.stop }

-- from a place of the text with these notes
set_out : (text : Text) (p : Place) (w : Way) → IsPlaceOf text p → NotesOn text w →
    WayOn text p (record w { at = p })
set_out text p w h k = record { at = h; forwards = stays p; notes = notes-at text w p k }

-- the same from a place before
further : (text : Text) (p q : Place) (w : Way) → IsForwards p q → WayOn text q w → WayOn text p w
further text p q w h k = record {
  at = k.at;
  forwards = further_on p q w.at h k.forwards;
  notes = k.notes;
}

-- back at the place of another way
back : (text : Text) (p : Place) (w v : Way) → WayOn text p w → NotesOn text v →
    WayOn text p (record v { at = w.at })
back text p w v h k = record { at = h.at; forwards = h.forwards; notes = notes-at text v w.at k }

-- ---- atoms and groups

behind_fit-on : (text : Text) (p : Place) (w : Way) (a : Atom) (o : Option Place) → WayOn text p w →
    IsPlaceOrNone text o → IsForwardsOrNone w.at o →
    AllMarks (AreWithin text) (WayOn text p) (behind_fit w a o)
behind_fit-on text p w a None h k f = tt
behind_fit-on text p w MatchStart (Some q) h k f = (
  record {
    at = h.at;
    forwards = h.forwards;
    notes = record { captures = h.notes.captures; start = h.at; stop = h.notes.stop };
  },
  tt,
)
behind_fit-on text p w MatchStop (Some q) h k f = (
  record {
    at = h.at;
    forwards = h.forwards;
    notes = record { captures = h.notes.captures; start = h.notes.start; stop = h.at };
  },
  tt,
)
behind_fit-on text p w _ (Some q) h k f = (
  record {
    at = k;
    forwards = further_on p w.at q h.forwards f;
    notes = notes-at text w q h.notes;
  },
  tt,
)

tried-on : (x : Context) (p : Place) (w : Way) (a : Atom) → WayOn x.text p w →
    AllMarks (AreWithin x.text) (WayOn x.text p) (tried x w a)
tried-on x p w a h = (
  lines_looked-within x w a h.at,
  behind_fit-on x.text p w a (fits x w a) h
      (fits-kept x w a h.at) (fits-forwards x w a),
)

noted-on : (text : Text) (number : ℕ) (p : Place) (w v : Way) → WayOn text p w → WayOn text w.at v →
    AllMarks (AreWithin text) (WayOn text p) (noted number w.at v)
noted-on text number p w v h k = (
  record {
    at = k.at;
    forwards = further_on p w.at v.at h.forwards k.forwards;
    notes = record {
      captures = captures-set text v.captures _ (Some (w.at, v.at))
          (record { begins = h.at; ends = k.at; in_order = in_order w.at v.at k.forwards })
          k.notes.captures;
      start = k.notes.start;
      stop = k.notes.stop;
    };
  },
  tt,
)

noted_external-on : (text : Text) (number : ℕ) (p : Place) (w v : Way) → WayOn text p w →
    WayOn text w.at v → AllMarks (AreWithin text) (WayOn text p) (noted_external number w.at v)
noted_external-on text number p w v h k = (
  record {
    at = k.at;
    forwards = further_on p w.at v.at h.forwards k.forwards;
    notes = record { captures = k.notes.captures; start = k.notes.start; stop = k.notes.stop };
  },
  tt,
)

-- ---- looks behind

abbrev PartOn : Context → Shape → Type 0
PartOn x part = (p : Place) (w : Way) → WayOn x.text p w →
    AllMarks (AreWithin x.text) (WayOn x.text p) (visits x part w)

Each-map : (P R : Place → Type 0) (ps : List Place) → ((p : Place) → P p → R p) → Each P ps →
    Each R ps
Each-map P R [] f h = tt
Each-map P R (p ∷ ps) f h = (f p h.0, Each-map P R ps f h.1)

starts-on : (text : Text) (limit : Behind) (p : Place) → IsPlaceOf text p →
    Each (IsPlaceOf text) (starts_behind text limit p)
starts-on text limit p h =
    rw (starts-first text limit p) (
      h,
      Each-map (IsElsewhere text p) (IsPlaceOf text) (other_starts text limit p) (λ q k. k.0)
          (others-elsewhere text limit p h),
    )

tried_behind-on : (x : Context) (part : Shape) (limit : Behind) → PartOn x part → (w : Way) →
    IsPlaceOf x.text w.at → NotesOn x.text w →
    AllMarks (AreWithin x.text) (NotesOn x.text) (tried_behind x.text (visits x part) limit w)
tried_behind-on x part limit on w h k =
    looking_at-all (AreWithin x.text) (NotesOn x.text) (one_line (pos w.at.line -ℤ pos 1))
    (λ l a. hull-within x.text l (one_line (pos w.at.line -ℤ pos 1)) a
    (before-within x.text w.at.line h.line))
    (ending_at w.at (from_each (visits x part) w (starts_behind x.text limit w.at)))
    (ending_at-all (AreWithin x.text) (NotesOn x.text) w.at
    (from_each (visits x part) w (starts_behind x.text limit w.at))
    (from_each-all (AreWithin x.text) (IsPlaceOf x.text) (NotesOn x.text) (visits x part) w
    (λ q a. AllMarks-map (AreWithin x.text) (WayOn x.text q) (NotesOn x.text)
    (visits x part (record w { at = q })) (λ v b. b.notes)
    (on q (record w { at = q }) (set_out x.text q w a k)))
    (starts_behind x.text limit w.at) (starts-on x.text limit w.at h)))

-- ---- every node

visits-on : (x : Context) (node : Shape) → PartOn x node
visits-on x empty p w h = (h, tt)
visits-on x (one a) p w h = tried-on x p w a h
visits-on x (seq a b) p w h =
    AllMarks-followed (AreWithin x.text) (WayOn x.text p) (WayOn x.text p) (visits x a w)
    (visits x b) (visits-on x a p w h) (visits-on x b p)
visits-on x (or a b) p w h =
    AllMarks-append (AreWithin x.text) (WayOn x.text p) (visits x a w) (visits x b w)
    (visits-on x a p w h) (visits-on x b p w h)
visits-on x (and a b) p w h =
    AllMarks-followed (AreWithin x.text) (WayOn x.text p) (WayOn x.text p)
    (look false w (visits x a w)) (visits x b)
    (look-all (AreWithin x.text) (WayOn x.text p) (WayOn x.text p) false w h
    (λ v k. back x.text p w v h k.notes) (visits x a w) (visits-on x a p w h))
    (visits-on x b p)
visits-on x (group part number) p w h =
    AllMarks-followed (AreWithin x.text) (WayOn x.text w.at) (WayOn x.text p) (visits x part w)
    (noted number w.at)
    (visits-on x part w.at w (set_out x.text w.at w h.at h.notes))
    (λ v k. noted-on x.text number p w v h k)
visits-on x (external part number) p w h =
    AllMarks-followed (AreWithin x.text) (WayOn x.text w.at) (WayOn x.text p) (visits x part w)
    (noted_external number w.at)
    (visits-on x part w.at w (set_out x.text w.at w h.at h.notes))
    (λ v k. noted_external-on x.text number p w v h k)
visits-on x (repeat part least most lazy) p w h =
    turns-all (AreWithin x.text) (WayOn x.text p) x.text (visits x part) lazy (visits-on x part p)
    least most w h
visits-on x (ahead part negative) p w h =
    look-all (AreWithin x.text) (WayOn x.text p) (WayOn x.text p) negative w h
    (λ v k. back x.text p w v h k.notes) (visits x part w) (visits-on x part p w h)
visits-on x (before part negative limit) p w h =
    look-all (AreWithin x.text) (NotesOn x.text) (WayOn x.text p) negative w h
    (λ v k. back x.text p w v h k)
    (tried_behind x.text (visits x part) limit w)
    (tried_behind-on x part limit (visits-on x part) w h.at h.notes)
visits-on x (whole part) p w h = whole-all (AreWithin x.text) (WayOn x.text p) (visits x part w)
    (visits-on x part p w h)

-- ---- the match of a way

or_place-on : (text : Text) (o : Option Place) (p : Place) → IsPlaceOrNone text o →
    IsPlaceOf text p → IsPlaceOf text (or_place o p)
or_place-on text None p h k = k
or_place-on text (Some q) p h k = h

by_order : (text : Text) (p q : Place) → IsPlaceOf text p → IsPlaceOf text q → (b : Bool) →
    is_after p q ≡ b → IsStretchOf text p (if b then p else q)
by_order text p q h k true e = record { begins = h; ends = h; in_order = in_order p p (stays p) }
by_order text p q h k false e = record { begins = h; ends = k; in_order = e }

match-on : (text : Text) (p : Place) (w : Way) → IsPlaceOf text p → WayOn text p w →
    IsMatchOf text p w
match-on text p w h k =
    let from : IsPlaceOf text (match_from p w) = or_place-on text w.start p k.notes.start h in
    let to : IsPlaceOf text (or_place w.stop w.at) =
    or_place-on text w.stop w.at k.notes.stop k.at in
    record {
      whole = by_order text (match_from p w) (or_place w.stop w.at) from to
          (is_after (match_from p w) (or_place w.stop w.at)) refl;
      captures = λ i. captures-get text w.captures i k.notes.captures;
    }

-- ---- answers

lines-about : (text : Text) (p : Place) (l : Looked) → Covers p.line l → AreWithin text l →
    AreLinesAbout text p l
lines-about text p l c h = record {
  from_before_first = h.least;
  low_to_start = c.0;
  high_from_start = c.1;
  to_behind_last = h.most;
}

answer_from-on : (text : Text) (p : Place) (cost : ℕ) (l : Looked) (marks : List Mark) →
    IsPlaceOf text p → Covers p.line l → AreWithin text l →
    AllMarks (AreWithin text) (WayOn text p) marks →
    StaysOn text p (answer_from cost (Some l) marks)
answer_from-on text p cost l [] on c h k = record { looked = lines-about text p l c h; way = tt }
answer_from-on text p cost l (Reach w ∷ marks) on c h k =
    record { looked = lines-about text p l c h; way = match-on text p w on k.0 }
answer_from-on text p cost l (Tick m ∷ marks) on c h k =
    answer_from-on text p (suc cost) (hull_of l m) marks on (covers-hull p.line l m c)
    (hull-within text l m h k.0) k.1

start_line-about : (text : Text) (p : Place) → IsPlaceOf text p →
    AreLinesAbout text p (one_line (pos p.line))
start_line-about text p h = lines-about text p (one_line (pos p.line))
    (omega (arith, ints), omega (arith, ints)) (one-within text p.line h.line)

-- the first tick looks at the start's line
answer-on : (text : Text) (p : Place) (marks : List Mark) → IsPlaceOf text p →
    Outset text text p p marks marks → AllMarks (AreWithin text) (WayOn text p) marks →
    StaysOn text p (answer_of marks)
answer-on text p [] on begins k = record { looked = start_line-about text p on; way = tt }
answer-on text p (Reach w ∷ marks) on begins k =
    record { looked = start_line-about text p on; way = match-on text p w on k.0 }
answer-on text p (Tick m ∷ marks) on begins k =
    let covers : Covers p.line m = begins.3 in answer_from-on text p 1 m marks on covers k.0 k.1

notes-none : (text : Text) (p : Place) → NotesOn text (way_from p)
notes-none text p = record { captures = captures-none text 9; start = tt; stop = tt }

node-on : (x : Context) (node : Shape) (p : Place) → IsPlaceOf x.text p →
    StaysOn x.text p (answer_of (visits x node (way_from p)))
node-on x node p h =
    answer-on x.text p (visits x node (way_from p)) h
    (outset node x x p p (way_from p) (way_from p)
    (record { here = refl; there = refl; of = h; of_other = h }))
    (visits-on x node p (way_from p) (record {
      at = h;
      forwards = stays p;
      notes = notes-none x.text p;
    }))

pub law : (tree : PatternTree) → StaysOnText tree
law tree x start h = node-on (for_tree tree x) tree.node start h

-- From marks that are the same, moved, to answers that are.
use Rattle.std.proofs.Common.{◌≡◌, ℕ, suc, Bool, true, false, List, [], ◌∷◌, get_or, refl, sym, ap, ◌∙◌, arith, subst}
use Rattle.std.specs.Prelude.{Option, Some, None, ℤ, pos, negsuc, ◌-ℤ◌, if◌then◌else◌}
use Rattle.std.proofs.lemmas.Int.{ints}
use Rattle.syn_base.specs.declared.looked.Looked.{Looked}
use Rattle.syn_base.specs.declared.places.Place.{Place}
use Rattle.syn_base.specs.Looked.{hull_of, moved_by, one_line}
use Rattle.syn_base.specs.Agreement.{Agree}
use Rattle.vim_pattern.specs.Tree.{PatternTree}
use Rattle.vim_pattern.specs.Shape.{Shape}
use Rattle.match_rules.specs.Ways.{Text, Context, Capture, Way, way_from, IsPlaceOf, is_after}
use Rattle.match_rules.specs.Marks.{Mark, Tick, Reach}
use Rattle.match_rules.specs.Visits.{visits}
use Rattle.match_rules.specs.Attempt.{answer_from, answer_of, for_tree, attempt, lines_of, or_place, match_from, match_to, not_before}
use Rattle.match_rules.specs.Locality.{AreAlike, IsMoved, IsMovedCapture, IsMovedMatch, IsMovedWay, IsMovedAnswer}
use Rattle.match_rules.proofs.Hulls.{hull-parts}
use Rattle.syn_base.proofs.HullLaws.{hull_moved}
use Rattle.match_rules.proofs.LocalMarks.{visits-moved}
use Rattle.match_rules.proofs.Outset.{Covers, Outset, outset}
use Rattle.match_rules.proofs.Sides.{Two, other, shift, AgreesOn, AgreesOver, Moved}
use Rattle.match_rules.proofs.Steps.{no_step, after-moved}
use Rattle.match_rules.proofs.SideWays.{CaptureMoved, StartMoved, StopMoved, WayMoved, ReachedWay, captures-none, captures-get, externals-same}
use Rattle.match_rules.proofs.AtomsMoved.{Local, moved-line, line-moved}

-- ---- the match of a way

is_moved : (two : Two) (p q : Place) → Moved two p q → IsMoved (shift two) p q
is_moved two p q m = record { line = moved-line two p.line q.line m.line; col = m.col }

from-moved : (two : Two) (p q : Place) (o r : Option Place) → Moved two p q →
    AgreesOn two (pos p.line) → StartMoved two o r →
    Moved two (or_place o p) (or_place r q) × AgreesOn two (pos (or_place o p).line)
from-moved two p q None None m ok h = (m, ok)
from-moved two p q (Some a) (Some b) m ok h = (h.0, h.1)
from-moved two p q None (Some b) m ok h = absurd h
from-moved two p q (Some a) None m ok h = absurd h

stop-moved : (two : Two) (p q : Place) (o r : Option Place) → Moved two p q → StopMoved two o r →
    Moved two (or_place o p) (or_place r q)
stop-moved two p q None None m h = m
stop-moved two p q (Some a) (Some b) m h = h
stop-moved two p q None (Some b) m h = absurd h
stop-moved two p q (Some a) None m h = absurd h

if-moved : (two : Two) (p q p' q' : Place) (b d : Bool) → d ≡ b → Moved two p q → Moved two p' q' →
    Moved two (if b then p else p') (if d then q else q')
if-moved two p q p' q' true true e m n = m
if-moved two p q p' q' false false e m n = n
if-moved two p q p' q' true false e m n = absurd (cc)
if-moved two p q p' q' false true e m n = absurd (cc)

not_before-moved : (two : Two) (p q p' q' : Place) → Moved two p q → Moved two p' q' →
    Moved two (not_before p p') (not_before q q')
not_before-moved two p q p' q' m n = if-moved two p q p' q' (is_after p p') (is_after q q')
    (after-moved two p' q' p q n m) m n

capture-is : (two : Two) (c d : Capture) → CaptureMoved two c d → IsMovedCapture (shift two) c d
capture-is two None None h = tt
capture-is two (Some a) (Some b) h = (is_moved two a.0 b.0 h.0, is_moved two a.1 b.1 h.1)
capture-is two None (Some b) h = absurd h
capture-is two (Some a) None h = absurd h

match-moved : (two : Two) (p q : Place) (w v : Way) → Moved two p q → AgreesOn two (pos p.line) →
    WayMoved two w v → IsMovedMatch two.x (other two) (shift two) p q w v
match-moved two p q w v m ok h =
    let from = from-moved two p q w.start v.start m ok h.notes.start in
    record {
      from = is_moved two (match_from p w) (match_from q v) from.0;
      from_line = from.1;
      to = is_moved two (match_to p w) (match_to q v)
          (not_before-moved two (match_from p w) (match_from q v) _ _ from.0
          (stop-moved two w.at v.at w.stop v.stop h.at h.notes.stop));
      captures = λ i. capture-is two (get_or w.captures i None) (get_or v.captures i None)
          (captures-get two w.captures v.captures i h.notes.captures);
      externals = externals-same two w.externals v.externals h.notes.externals;
    }

-- ---- answers

-- the hull of the lines looked at, up to the first way
abbrev hull_to : Looked → List Mark → Looked
hull_to l [] = l
hull_to l (Tick m ∷ ms) = hull_to (hull_of l m) ms
hull_to l (Reach w ∷ ms) = l

hull_to-covers : (two : Two) (l : Looked) (ms : List Mark) → AgreesOver two (hull_to l ms) →
    AgreesOver two l
hull_to-covers two l [] ok = ok
hull_to-covers two l (Tick m ∷ ms) ok = (hull-parts two l m
    (hull_to-covers two (hull_of l m) ms ok)).0
hull_to-covers two l (Reach w ∷ ms) ok = ok

looked-is : (p : Place) (cost : ℕ) (l : Looked) (ms : List Mark) →
    lines_of p (answer_from cost (Some l) ms) ≡ hull_to l ms
looked-is p cost l [] = refl
looked-is p cost l (Tick m ∷ ms) = looked-is p (suc cost) (hull_of l m) ms
looked-is p cost l (Reach w ∷ ms) = refl

answer_from-moved : (two : Two) (p q : Place) (cost : ℕ) (l : Looked) (ms ns : List Mark) →
    Moved two p q → AgreesOn two (pos p.line) → Local two (ReachedWay two p q) ms ns →
    AgreesOver two (hull_to l ms) →
    IsMovedAnswer two.x (other two) (shift two) p q (answer_from cost (Some l) ms)
    (answer_from cost (Some (moved_by l (shift two))) ns)
answer_from-moved two p q cost l [] ns m here h ok =
    rw h (record { cost = refl; looked = refl; way = tt })
answer_from-moved two p q cost l (Reach w ∷ ms) ns m here h ok =
    rw h.2 (record { cost = refl; looked = refl; way = match-moved two p q w h.0 m here h.3.way })
answer_from-moved two p q cost l (Tick a ∷ ms) ns m here h ok =
    let agrees : AgreesOver two a = (hull-parts two l a (hull_to-covers two (hull_of l a) ms ok)).1
    in
    let hull : hull_of (moved_by l (shift two)) h.0 ≡ moved_by (hull_of l a) (shift two) =
    ap (λ k. hull_of (moved_by l (shift two)) k) (h.3 agrees) ∙ hull_moved l a (shift two) in
    rw h.2
    (subst (λ (k : Looked). IsMovedAnswer two.x (other two) (shift two) p q
    (answer_from (suc cost) (Some (hull_of l a)) ms) (answer_from (suc cost) (Some k) h.1))
    (sym hull)
    (answer_from-moved two p q (suc cost) (hull_of l a) ms h.1 m here (h.4 agrees) ok))

start_line-moved : (two : Two) (p q : Place) → Moved two p q →
    one_line (pos q.line) ≡ moved_by (one_line (pos p.line)) (shift two)
start_line-moved two p q m = line-moved two p.line q.line m.line

-- the first tick looks at the start's line; where there is none, that line is what was looked at
answer-moved : (two : Two) (p q : Place) (ms ns : List Mark) → Moved two p q →
    Outset two.x.text two.x.text p p ms ms → Local two (ReachedWay two p q) ms ns →
    AgreesOver two (lines_of p (answer_of ms)) →
    IsMovedAnswer two.x (other two) (shift two) p q (answer_of ms) (answer_of ns)
answer-moved two p q [] ns m begins h ok =
    rw h (record { cost = refl; looked = start_line-moved two p q m; way = tt })
answer-moved two p q (Reach w ∷ ms) ns m begins h ok =
    rw h.2 (record {
      cost = refl;
      looked = start_line-moved two p q m;
      way = match-moved two p q w h.0 m
          (ok.each_line (pos p.line) (omega (arith, ints)) (omega (arith, ints))) h.3.way;
    })
answer-moved two p q (Tick a ∷ ms) ns m begins h ok =
    let all : AgreesOver two (hull_to a ms) = subst (AgreesOver two) (looked-is p 1 a ms) ok in
    let agrees : AgreesOver two a = hull_to-covers two a ms all in
    let covers : Covers p.line a = begins.3 in
    let here : AgreesOn two (pos p.line) = agrees.each_line (pos p.line) covers.0 covers.1 in
    rw h.2
    (subst (λ (k : Looked). IsMovedAnswer two.x (other two) (shift two) p q
    (answer_from 1 (Some a) ms) (answer_from 1 (Some k) h.1)) (sym (h.3 agrees))
    (answer_from-moved two p q 1 a ms h.1 m here (h.4 agrees) all))

way_from-moved : (two : Two) (p q : Place) → Moved two p q → WayMoved two (way_from p) (way_from q)
way_from-moved two p q m = record {
  at = m;
  notes = record {
    captures = captures-none two 9;
    externals = captures-none two 9;
    start = tt;
    stop = tt;
  };
}

node-moved : (two : Two) (node : Shape) (p q : Place) → Moved two p q →
    AgreesOver two (lines_of p (answer_of (visits two.x node (way_from p)))) →
    IsMovedAnswer two.x (other two) (shift two) p q (answer_of (visits two.x node (way_from p)))
    (answer_of (visits (other two) node (way_from q)))
node-moved two node p q m ok =
    answer-moved two p q (visits two.x node (way_from p)) (visits (other two) node (way_from q)) m
    (outset node two.x two.x p p (way_from p) (way_from p)
    (record { here = refl; there = refl; of = m.on; of_other = m.on }))
    (visits-moved two node p q (way_from p) (way_from q)
    (record { way = way_from-moved two p q m; by = no_step two p q }))
    ok

-- ---- the law

-- in a context that differs in its text alone
abbrev LawAt : PatternTree → Context → Text → ℤ → Type 0
LawAt tree x text by =
    (p q : Place) → IsMoved by p q → IsPlaceOf x.text p → IsPlaceOf text q →
    Agree x.text text by (lines_of p (attempt tree x p)) →
    IsMovedAnswer x (record x { text = text }) by p q (attempt tree x p)
    (attempt tree (record x { text = text }) q)

-- a match speaks of the texts of its contexts alone
way-under : (x y x' y' : Context) (by : ℤ) (p q : Place) (o r : Option Way) → x'.text ≡ x.text →
    y'.text ≡ y.text → IsMovedWay x y by p q o r → IsMovedWay x' y' by p q o r
way-under x y x' y' by p q None None e f h = tt
way-under x y x' y' by p q (Some w) (Some v) e f h = record {
  from = h.from;
  from_line = rw (e, f) h.from_line;
  to = h.to;
  captures = h.captures;
  externals = rw (e, f) h.externals;
}
way-under x y x' y' by p q None (Some v) e f h = absurd h
way-under x y x' y' by p q (Some w) None e f h = absurd h

law-between : (tree : PatternTree) (x : Context) (text : Text) (ahead back : ℕ) →
    LawAt tree x text (pos ahead -ℤ pos back)
law-between tree x text ahead back p q m on there ok =
    let two : Two = record { x = for_tree tree x; text = text; ahead = ahead; back = back } in
    let r = node-moved two tree.node p q
    (record { line = omega (arith, ints, m.line); col = m.col; on = on; there = there }) ok in
    record {
      cost = r.cost;
      looked = r.looked;
      way = way-under (for_tree tree x) (other two) x (record x { text = text })
          (pos ahead -ℤ pos back) p q (attempt tree x p).way
          (attempt tree (record x { text = text }) q).way refl refl r.way;
    }

law-by : (tree : PatternTree) (x : Context) (text : Text) (by : ℤ) → LawAt tree x text by
law-by tree x text (pos n) =
    let e : pos n -ℤ pos 0 ≡ pos n = omega (arith, ints) in
    subst (LawAt tree x text) e (law-between tree x text n 0)
law-by tree x text (negsuc n) =
    let e : pos 0 -ℤ pos (suc n) ≡ negsuc n = omega (arith, ints) in
    subst (LawAt tree x text) e (law-between tree x text 0 (suc n))

with_text : (x y : Context) → AreAlike x y → record x { text = y.text } ≡ y
with_text x y h = λ i. record {
  text = y.text;
  ignore = sym h.ignore i;
  sets = sym h.sets i;
  externals = sym h.externals i;
}

pub law : (tree : PatternTree) (x y : Context) (by : ℤ) (p q : Place) → AreAlike x y →
    IsMoved by p q → IsPlaceOf x.text p → IsPlaceOf y.text q →
    Agree x.text y.text by (lines_of p (attempt tree x p)) →
    IsMovedAnswer x y by p q (attempt tree x p) (attempt tree y q)
law tree x y by p q same m on there ok =
    subst (λ z. IsMovedAnswer x z by p q (attempt tree x p) (attempt tree z q)) (with_text x y same)
    (law-by tree x y.text by p q m on there ok)

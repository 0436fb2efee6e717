-- An atom is tried alike in both texts: it looks at the same lines, moved, and leads to the same way.
use Rattle.std.proofs.Common.{◌≡◌, ℕ, ◌+◌, ◌<◌, ◌≤◌, Bool, true, false, List, length, refl, sym, ap, ◌∙◌, arith}
use Rattle.std.specs.Prelude.{Option, Some, None, pos, ◌+ℤ◌, ◌-ℤ◌, nat_lt, nat_eq, not, ◌&&◌, if◌then◌else◌}
use Rattle.std.proofs.lemmas.Bool.{ltb-true, ltb-false, lt-ltb, le-ltb}
use Rattle.std.proofs.lemmas.Int.{ints}
use Rattle.char_class.specs.declared.sets.Sets.{Sets}
use Rattle.syn_base.specs.declared.looked.Looked.{Looked}
use Rattle.syn_base.specs.declared.places.Place.{Place}
use Rattle.syn_base.specs.Looked.{hull_of, moved_by, numbered_too, one_line}
use Rattle.pattern_items.specs.declared.atom.Atom.{Atom}
use Rattle.pattern_items.specs.declared.atom.Compare.{Compare}
use Rattle.pattern_items.specs.declared.atom.Atom.TheVariants.{Char, Any, Is, Set, LineEnd, LineStart, LineStop, WordStart, WordStop, FileStart, FileStop, MatchStart, MatchStop, LineNumber, Ref, ExternalRef}
use Rattle.match_rules.specs.Ways.{Text, Way, line_at}
use Rattle.match_rules.specs.Atoms.{only_if, group_text, external_text, stands, number_of_line, keyword_at, keyword_before, keyword_in, has_keyword, fits, own_line, lines_from, line_behind, lines_looked}
use Rattle.match_rules.specs.Marks.{Mark}
use Rattle.match_rules.specs.Visits.{tried, behind_fit}
use Rattle.match_rules.proofs.Outset.{looks-here, line_behind-later}
use Rattle.match_rules.proofs.SameMarks.{Same, Same-one}
use Rattle.match_rules.proofs.Sides.{Two, other, shift, IsLineOf, AgreesOn, AgreesOver, Moved, SameLine, same_line, same_before, first_line}
use Rattle.match_rules.proofs.Steps.{FitMoved, AgreesUpTo, stay-moved, no_step, further, character-same, behind_one-moved, behind_end-moved, behind_one_or_end-moved, pieces-moved, same_eq}
use Rattle.match_rules.proofs.Hulls.{low_least, high_most, one_line-moved, hull-both, hull-parts}
use Rattle.match_rules.proofs.SideWays.{WayMoved, ReachedWay, group_text-same}

-- the lines looked at are the same, moved, where the texts agree on them
abbrev pub LooksMoved : Two → Looked → Looked → Type 0
LooksMoved two l k = AgreesOver two l → k ≡ moved_by l (shift two)

-- two lists of marks, as long as the texts agree
abbrev pub Local : Two → (Way → Way → Type 0) → List Mark → List Mark → Type 0
Local two R ms ns = Same (AgreesOver two) (LooksMoved two) R ms ns

pub moved-line : (two : Two) (k j : ℕ) → IsLineOf two k j → pos j ≡ pos k +ℤ shift two
moved-line two k j h = omega (arith, ints)

pub line-moved : (two : Two) (k j : ℕ) → IsLineOf two k j →
    one_line (pos j) ≡ moved_by (one_line (pos k)) (shift two)
line-moved two k j h = one_line-moved (pos k) (pos j) (shift two) (moved-line two k j h)

pub lines_from-moved : (two : Two) (k j m n : ℕ) → IsLineOf two k j → IsLineOf two m n →
    lines_from j n ≡ moved_by (lines_from k m) (shift two)
lines_from-moved two k j m n h g =
    hull-both (one_line (pos k)) (one_line (pos m)) (one_line (pos j)) (one_line (pos n))
    (shift two)
    (line-moved two k j h) (line-moved two m n g)

-- the atom's own line is among them
pub agrees_here : (two : Two) (w : Way) (a : Atom) →
    AgreesOver two (lines_looked two.x w a) → AgreesOn two (pos w.at.line)
agrees_here two w a ok = let c = looks-here two.x w a in ok.each_line (pos w.at.line) c.0 c.1

-- and where the line before is looked at too, that one
pub agrees_before : (two : Two) (p : Place) (l : Looked) →
    AgreesOver two (hull_of l (one_line (pos p.line -ℤ pos 1))) → AgreesOn two (pos p.line -ℤ pos 1)
agrees_before two p l ok =
    let before : AgreesOver two (one_line (pos p.line -ℤ pos 1)) =
    (hull-parts two l (one_line (pos p.line -ℤ pos 1)) ok).1 in
    before.each_line (pos p.line -ℤ pos 1) (omega (arith, ints)) (omega (arith, ints))

up_to : (two : Two) (low high : ℕ) → AgreesOver two (lines_from low high) → AgreesUpTo two low high
up_to two low high ok = λ l a b.
    let least = low_least (one_line (pos low)) (one_line (pos high)) in
    let most = high_most (one_line (pos low)) (one_line (pos high)) in
    ok.each_line (pos l) (omega (arith, ints, least.0)) (omega (arith, ints, most.1))

-- ---- words

keyword_before-same : (sets : Sets) (line more : List ℕ) (c d : ℕ) → more ≡ line → d ≡ c →
    keyword_in sets more d ≡ keyword_in sets line c
keyword_before-same sets line more c d h k = rw (h, k) refl

keyword_at-moved : (two : Two) (p q : Place) → Moved two p q → SameLine two p.line q.line →
    keyword_at (other two) q ≡ keyword_at two.x p
keyword_at-moved two p q m s = ap (has_keyword two.x.sets) (character-same two p q m s)

keyword_before-moved : (two : Two) (p q : Place) → Moved two p q → SameLine two p.line q.line →
    keyword_before (other two) q ≡ keyword_before two.x p
keyword_before-moved two p q m s = keyword_before-same two.x.sets (line_at two.x.text p.line)
    (line_at two.text q.line) p.col q.col s.chars m.col

both-same : (a b c d : Bool) → c ≡ a → d ≡ b → (c && d) ≡ (a && b)
both-same a b c d h k = rw (h, k) refl

-- ---- the file's ends

line_stop-same : (two : Two) (p q : Place) → Moved two p q → SameLine two p.line q.line →
    nat_eq q.col (length (line_at two.text q.line)) ≡ nat_eq p.col
    (length (line_at two.x.text p.line))
line_stop-same two p q m s = rw (s.chars, m.col) refl

file_start-moved : (two : Two) (p q : Place) → Moved two p q → AgreesOn two (pos p.line -ℤ pos 1) →
    FitMoved two p q (only_if (nat_eq p.line 0 && nat_eq p.col 0) p)
    (only_if (nat_eq q.line 0 && nat_eq q.col 0) q)
file_start-moved two p q m ok =
    stay-moved two p q _ _ m (both-same (nat_eq p.line 0) (nat_eq p.col 0) (nat_eq q.line 0)
    (nat_eq q.col 0) (first_line two p.line q.line (same_before two p.line q.line m.line ok))
    (ap (λ n. nat_eq n 0) m.col))

behind-moved : (two : Two) (k j : ℕ) (b d : Bool) → IsLineOf two k j → d ≡ b →
    IsLineOf two (if b then k + 1 else k) (if d then j + 1 else j)
behind-moved two k j true true m e = omega arith
behind-moved two k j false false m e = m
behind-moved two k j true false m e = absurd (cc)
behind-moved two k j false true m e = absurd (cc)

line_behind-moved : (two : Two) (p q : Place) → Moved two p q → SameLine two p.line q.line →
    IsLineOf two (line_behind two.x.text p.line) (line_behind two.text q.line)
line_behind-moved two p q m s = behind-moved two p.line q.line (nat_lt p.line (length two.x.text))
    (nat_lt q.line (length two.text)) m.line s.here

-- a line is the last one, if it is there and the line behind it isn't
last-same : (k n j m : ℕ) → nat_lt j m ≡ nat_lt k n →
    (k < n → nat_lt (j + 1) m ≡ nat_lt (k + 1) n) → nat_eq (j + 1) m ≡ nat_eq (k + 1) n
last-same k n j m e f =
    same_eq (j + 1) m (k + 1) n
    (λ h. let less : k < n = ltb-true k n (sym e ∙ lt-ltb j m (omega arith)) in
    let past : n ≤ k + 1 = ltb-false (k + 1) n (sym (f less) ∙ le-ltb (j + 1) m (omega arith)) in
    omega arith)
    (λ h. let less : k < n = omega arith in
    let there : j < m = ltb-true j m (e ∙ lt-ltb k n less) in
    let past : m ≤ j + 1 = ltb-false (j + 1) m (f less ∙ le-ltb (k + 1) n (omega arith)) in
    omega arith)

behind-is : (text : Text) (l : ℕ) → l < length text → line_behind text l ≡ l + 1
behind-is text l h = ap (λ b. if b then l + 1 else l) (lt-ltb l (length text) h)

next-same : (two : Two) (p q : Place) → SameLine two p.line q.line →
    SameLine two (line_behind two.x.text p.line) (line_behind two.text q.line) →
    p.line < length two.x.text → nat_lt (q.line + 1) (length two.text) ≡ nat_lt (p.line + 1)
    (length two.x.text)
next-same two p q s n less =
    let there : q.line < length two.text =
    ltb-true q.line (length two.text) (s.here ∙ lt-ltb p.line (length two.x.text) less) in
    ap (λ l. nat_lt l (length two.text)) (sym (behind-is two.text q.line there))
    ∙ (n.here ∙ ap (λ l. nat_lt l (length two.x.text)) (behind-is two.x.text p.line less))

file_stop-moved : (two : Two) (p q : Place) → Moved two p q →
    AgreesUpTo two p.line (line_behind two.x.text p.line) → SameLine two p.line q.line →
    FitMoved two p q (only_if (nat_eq (p.line + 1) (length two.x.text)
    && nat_eq p.col (length (line_at two.x.text p.line))) p)
    (only_if (nat_eq (q.line + 1) (length two.text)
    && nat_eq q.col (length (line_at two.text q.line))) q)
file_stop-moved two p q m ok s =
    let next : SameLine two (line_behind two.x.text p.line) (line_behind two.text q.line) =
    same_line two _ _ (line_behind-moved two p q m s)
    (ok (line_behind two.x.text p.line) (line_behind-later two.x.text p.line) (omega arith)) in
    stay-moved two p q _ _ m (both-same (nat_eq (p.line + 1) (length two.x.text))
    (nat_eq p.col (length (line_at two.x.text p.line))) (nat_eq (q.line + 1) (length two.text))
    (nat_eq q.col (length (line_at two.text q.line)))
    (last-same p.line (length two.x.text) q.line (length two.text) s.here
    (next-same two p q s next))
    (line_stop-same two p q m s))

-- ---- line numbers

-- where a number was looked at, the line is the same one
same_number : (two : Two) (k j : ℕ) → IsLineOf two k j → shift two ≡ pos 0 → j ≡ k
same_number two k j m h = omega (arith, ints)

number-moved : (two : Two) (p q : Place) (how : Compare) (number : ℕ) → Moved two p q →
    shift two ≡ pos 0 → FitMoved two p q (only_if (stands how number (number_of_line p.line)) p)
    (only_if (stands how number (number_of_line q.line)) q)
number-moved two p q how number m h =
    stay-moved two p q _ _ m (ap (λ l. stands how number (number_of_line l))
    (same_number two p.line q.line m.line h))

-- ---- where an atom leads

this_line : (two : Two) (w v : Way) (a : Atom) → WayMoved two w v →
    AgreesOver two (lines_looked two.x w a) → SameLine two w.at.line v.at.line
this_line two w v a m ok = same_line two w.at.line v.at.line m.at.line (agrees_here two w a ok)

fits-moved : (two : Two) (w v : Way) (a : Atom) → WayMoved two w v →
    AgreesOver two (lines_looked two.x w a) →
    FitMoved two w.at v.at (fits two.x w a) (fits (other two) v a)
fits-moved two w v (Char c) m ok = behind_one-moved two _ w.at v.at m.at
    (this_line two w v (Char c) m ok)
fits-moved two w v (Any takes_end) m ok =
    behind_one_or_end-moved two takes_end (λ _. true) w.at v.at m.at
    (this_line two w v (Any takes_end) m ok)
fits-moved two w v (Is class negative takes_end) m ok =
    behind_one_or_end-moved two takes_end _ w.at v.at m.at
    (this_line two w v (Is class negative takes_end) m ok)
fits-moved two w v (Set ranges) m ok = behind_one_or_end-moved two ranges.line_end _ w.at v.at m.at
    (this_line two w v (Set ranges) m ok)
fits-moved two w v LineEnd m ok = behind_end-moved two w.at v.at m.at
    (this_line two w v LineEnd m ok)
fits-moved two w v LineStart m ok = stay-moved two w.at v.at _ _ m.at
    (ap (λ n. nat_eq n 0) m.at.col)
fits-moved two w v LineStop m ok = stay-moved two w.at v.at _ _ m.at
    (line_stop-same two w.at v.at m.at (this_line two w v LineStop m ok))
fits-moved two w v WordStart m ok =
    let s : SameLine two w.at.line v.at.line = this_line two w v WordStart m ok in
    stay-moved two w.at v.at _ _ m.at (both-same (keyword_at two.x w.at)
    (not (keyword_before two.x w.at)) (keyword_at (other two) v.at)
    (not (keyword_before (other two) v.at)) (keyword_at-moved two w.at v.at m.at s)
    (ap not (keyword_before-moved two w.at v.at m.at s)))
fits-moved two w v WordStop m ok =
    let s : SameLine two w.at.line v.at.line = this_line two w v WordStop m ok in
    stay-moved two w.at v.at _ _ m.at (both-same (keyword_before two.x w.at)
    (not (keyword_at two.x w.at)) (keyword_before (other two) v.at)
    (not (keyword_at (other two) v.at)) (keyword_before-moved two w.at v.at m.at s)
    (ap not (keyword_at-moved two w.at v.at m.at s)))
fits-moved two w v FileStart m ok =
    file_start-moved two w.at v.at m.at (agrees_before two w.at (own_line w) ok)
fits-moved two w v FileStop m ok = file_stop-moved two w.at v.at m.at
    (up_to two w.at.line (line_behind two.x.text w.at.line) ok) (this_line two w v FileStop m ok)
fits-moved two w v MatchStart m ok = (m.at, no_step two w.at v.at)
fits-moved two w v MatchStop m ok = (m.at, no_step two w.at v.at)
fits-moved two w v (LineNumber how number) m ok =
    number-moved two w.at v.at how number m.at (ok.unmoved refl)
fits-moved two w v (Ref number) m ok =
    rw (group_text-same two w v number m)
    (pieces-moved two (group_text two.x w number) w.at v.at m.at (up_to two w.at.line _ ok)).0
fits-moved two w v (ExternalRef number) m ok =
    (pieces-moved two (external_text two.x number) w.at v.at m.at (up_to two w.at.line _ ok)).0

-- ---- the lines that it looks at

pub before-moved : (two : Two) (k j : ℕ) → IsLineOf two k j →
    pos j -ℤ pos 1 ≡ (pos k -ℤ pos 1) +ℤ shift two
before-moved two k j h = omega (arith, ints)

pub before_line-moved : (two : Two) (k j : ℕ) → IsLineOf two k j →
    one_line (pos j -ℤ pos 1) ≡ moved_by (one_line (pos k -ℤ pos 1)) (shift two)
before_line-moved two k j h =
    one_line-moved (pos k -ℤ pos 1) (pos j -ℤ pos 1) (shift two) (before-moved two k j h)

looks-moved : (two : Two) (w v : Way) (a : Atom) → WayMoved two w v →
    LooksMoved two (lines_looked two.x w a) (lines_looked (other two) v a)
looks-moved two w v FileStart m ok =
    hull-both (own_line w) (one_line (pos w.at.line -ℤ pos 1)) (own_line v)
    (one_line (pos v.at.line -ℤ pos 1))
    (shift two) (line-moved two w.at.line v.at.line m.at.line)
    (before_line-moved two w.at.line v.at.line m.at.line)
looks-moved two w v FileStop m ok = lines_from-moved two w.at.line v.at.line _ _ m.at.line
    (line_behind-moved two w.at v.at m.at (this_line two w v FileStop m ok))
looks-moved two w v (Ref number) m ok =
    rw (group_text-same two w v number m)
    (lines_from-moved two w.at.line v.at.line _ _ m.at.line
    (pieces-moved two (group_text two.x w number) w.at v.at m.at (up_to two w.at.line _ ok)).1)
looks-moved two w v (ExternalRef number) m ok =
    lines_from-moved two w.at.line v.at.line _ _ m.at.line
    (pieces-moved two (external_text two.x number) w.at v.at m.at (up_to two w.at.line _ ok)).1
looks-moved two w v (LineNumber how number) m ok =
    ap numbered_too (line-moved two w.at.line v.at.line m.at.line)
looks-moved two w v _ m ok = line-moved two w.at.line v.at.line m.at.line

-- ---- the way behind it

behind_fit-moved : (two : Two) (p q : Place) (w v : Way) (a : Atom) → ReachedWay two p q w v →
    AgreesOn two (pos w.at.line) → (o r : Option Place) → FitMoved two w.at v.at o r →
    Local two (ReachedWay two p q) (behind_fit w a o) (behind_fit v a r)
behind_fit-moved two p q w v a m ok None None f = refl
behind_fit-moved two p q w v a m ok None (Some q') f = absurd f
behind_fit-moved two p q w v a m ok (Some p') None f = absurd f
behind_fit-moved two p q w v MatchStart m ok (Some p') (Some q') f =
    Same-one (AgreesOver two) (LooksMoved two) (ReachedWay two p q) _ _ (record {
      way = record {
        at = m.way.at;
        notes = record {
          captures = m.way.notes.captures;
          externals = m.way.notes.externals;
          start = (m.way.at, ok);
          stop = m.way.notes.stop;
        };
      };
      by = m.by;
    })
behind_fit-moved two p q w v MatchStop m ok (Some p') (Some q') f =
    Same-one (AgreesOver two) (LooksMoved two) (ReachedWay two p q) _ _ (record {
      way = record {
        at = m.way.at;
        notes = record {
          captures = m.way.notes.captures;
          externals = m.way.notes.externals;
          start = m.way.notes.start;
          stop = m.way.at;
        };
      };
      by = m.by;
    })
behind_fit-moved two p q w v _ m ok (Some p') (Some q') f =
    Same-one (AgreesOver two) (LooksMoved two) (ReachedWay two p q) _ _ (record {
      way = record {
        at = f.0;
        notes = record {
          captures = m.way.notes.captures;
          externals = m.way.notes.externals;
          start = m.way.notes.start;
          stop = m.way.notes.stop;
        };
      };
      by = further two p q w.at v.at p' q' m.by f.1;
    })

pub atom-moved : (two : Two) (p q : Place) (w v : Way) (a : Atom) → ReachedWay two p q w v →
    Local two (ReachedWay two p q) (tried two.x w a) (tried (other two) v a)
atom-moved two p q w v a m = (
  lines_looked (other two) v a,
  behind_fit v a (fits (other two) v a),
  refl,
  looks-moved two w v a m.way,
  λ ok. behind_fit-moved two p q w v a m (agrees_here two w a ok) (fits two.x w a)
      (fits (other two) v a) (fits-moved two w v a m.way ok),
)

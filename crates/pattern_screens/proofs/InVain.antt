-- What an attempt answers whose marks have no way.
use Rattle.pattern_screens.proofs.Common.{◌≡◌, ℕ, suc, ◌+◌, ◌≤◌, Bool, true, false, List, [], ◌∷◌, refl, sym, ap, ◌∙◌, arith, subst, Option, Some, None, ℤ, pos, ◌-ℤ◌, ◌≤ℤ◌, ints, Looked, Place, hull_of, one_line, lesser, greater, Mark, Tick, Reach, Answer, joined, answer_from, answer_of, lines_of, two_lines, IsInVain}
use Rattle.syn_base.proofs.HullLaws.{hull_self}
use Rattle.pattern_screens.proofs.Bounded.{AllTicks, Bounded, seen-under, ticks_of, ways_of}
use Rattle.pattern_screens.proofs.Stands.{LooksAt}

answer-way : (n : ℕ) (l : Option Looked) (marks : List Mark) → ways_of marks ≡ 0 → (answer_from n l marks).way ≡ None
answer-way n l [] h = refl
answer-way n l (Tick m ∷ marks) h = answer-way (suc n) (joined l m) marks h
answer-way n l (Reach w ∷ marks) h = absurd (omega arith)

answer-cost : (n : ℕ) (l : Option Looked) (marks : List Mark) → ways_of marks ≡ 0 → (answer_from n l marks).cost ≡ n + ticks_of marks
answer-cost n l [] h = omega arith
answer-cost n l (Tick m ∷ marks) h = omega (arith, answer-cost (suc n) (joined l m) marks h)
answer-cost n l (Reach w ∷ marks) h = absurd (omega arith)

-- looks that are within what was looked at before
abbrev Adds : Looked → Looked → Type 0
Adds k l = hull_of k l ≡ k

answer-looked : (k : Looked) (n : ℕ) (marks : List Mark) → ways_of marks ≡ 0 → AllTicks (Adds k) marks → (answer_from n (Some k) marks).looked ≡ Some k
answer-looked k n [] h t = refl
answer-looked k n (Tick l ∷ marks) h t =
    subst (λ m. (answer_from (suc n) (Some m) marks).looked ≡ Some k) (sym t.0) (answer-looked k (suc n) marks h t.1)
answer-looked k n (Reach w ∷ marks) h t = absurd (omega arith)

-- where the first tick looks at all that is looked at
first-looked : (start : Place) (k l : Looked) (marks : List Mark) → l ≡ k → ways_of marks ≡ 0 → AllTicks (Adds k) marks → lines_of start (answer_of (Tick l ∷ marks)) ≡ k
first-looked start k l marks e h t =
    subst (λ m. lines_of start (answer_of (Tick m ∷ marks)) ≡ k) (sym e)
    (ap (λ o. lines_of start (record { way = None; cost = 0; looked = o })) (answer-looked k 1 marks h t))

own-line : (start : Place) (marks : List Mark) → ways_of marks ≡ 0 → AllTicks (LooksAt start.line) marks → lines_of start (answer_of marks) ≡ one_line (pos start.line)
own-line start [] h t = refl
own-line start (Tick l ∷ marks) h t =
    let k : Looked = one_line (pos start.line) in
    first-looked start k l marks t.0 h (seen-under (LooksAt start.line) (Adds k) marks (λ m e. ap (hull_of k) e ∙ hull_self k) t.1)
own-line start (Reach w ∷ marks) h t = absurd (omega arith)

pub in-vain : {R : Place → Type 0} {c : ℕ} {marks : List Mark} (start : Place) → Bounded R (LooksAt start.line) 0 c marks → IsInVain start c false (answer_of marks)
in-vain {marks = marks} start h =
    let z : ways_of marks ≡ 0 = omega (arith, h.few) in
    record {
      way = answer-way 0 None marks z;
      cost = omega (arith, answer-cost 0 None marks z, h.cheap);
      looked = own-line start marks z h.seen;
    }

pub in-vain-within : (start : Place) (cost budget : ℕ) (before : Bool) (answer : Answer) → cost ≤ budget → IsInVain start cost before answer → IsInVain start budget before answer
in-vain-within start cost budget before answer h k = record { way = k.way; cost = omega (arith, k.cost); looked = k.looked }

-- ---- a line and the one before

-- among both, and at no number
pub record Within (line : ℕ) (looked : Looked) : Type 0 where
  pub low : (pos line -ℤ pos 1) ≤ℤ looked.low
  pub high : looked.high ≤ℤ pos line
  pub unnumbered : looked.numbered ≡ false

low-left : (m a : ℤ) → m ≤ℤ a → lesser m a ≡ m
low-left m a h = grind (arith, ints)

high-left : (m a : ℤ) → a ≤ℤ m → greater m a ≡ m
high-left m a h = grind (arith, ints)

adds-none : (line : ℕ) (l : Looked) → Within line l → Adds (two_lines line) l
adds-none line l h =
    let low : (pos line -ℤ pos 1) ≤ℤ l.low = h.low in
    let high : l.high ≤ℤ pos line = h.high in
    λ i. record {
      low = low-left (two_lines line).low l.low (grind (arith, ints, low)) i;
      high = high-left (two_lines line).high l.high (grind (arith, ints, high)) i;
      numbered = h.unnumbered i;
    }

-- a tick comes first, that looks so
abbrev pub Begins : (Looked → Type 0) → List Mark → Type 0
Begins P [] = ⊥
Begins P (Tick l ∷ marks) = P l
Begins P (Reach w ∷ marks) = ⊥

pub in-vain-behind : {R : Place → Type 0} {c : ℕ} (start : Place) (marks : List Mark) → Begins (λ l. l ≡ two_lines start.line) marks → Bounded R (Within start.line) 0 c marks → IsInVain start c true (answer_of marks)
in-vain-behind start [] both h = absurd both
in-vain-behind start (Reach w ∷ marks) both h = absurd both
in-vain-behind start (Tick l ∷ marks) both h =
    let z : ways_of marks ≡ 0 = omega (arith, h.few) in
    record {
      way = answer-way 1 (Some l) marks z;
      cost = omega (arith, answer-cost 1 (Some l) marks z, h.cheap);
      looked = first-looked start (two_lines start.line) l marks both z (seen-under (Within start.line) (Adds (two_lines start.line)) marks (adds-none start.line) h.seen.1);
    }

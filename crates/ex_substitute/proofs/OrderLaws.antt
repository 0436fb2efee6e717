-- The matches of a substitution lie on the text, in order.
use Rattle.std.proofs.Common.{◌≡◌, ◌<◌, ◌≤◌, ◌+◌, ◌-◌, ℕ, zero, suc, Bool, true, false, cond, ◌&&◌, ◌||◌, not, nat_lt, nat_eq, List, [], ◌∷◌, ◌++◌, length, ap, refl, sym, ◌∙◌, subst, arith}
use Rattle.std.specs.Prelude.{Option, Some, None, Result, Ok, Err}
use Rattle.std.proofs.lemmas.Bool.Decides.{nat_tests}
use Rattle.syn_base.specs.declared.places.Place.{Place}
use Rattle.vim_pattern.specs.Tree.{PatternTree}
use Rattle.match_rules.specs.Ways.{Text, IsPlaceOf, line_at, place, is_same_place, behind_character}
use Rattle.match_rules.specs.Attempt.{attempt}
use Rattle.match_rules.proofs.Starts.{Each}
use Rattle.pattern_match.specs.declared.answer.Match.{Match}
use Rattle.pattern_match.specs.declared.answer.Attempt.{Attempt}
use Rattle.pattern_match.specs.declared.answer.Attempt.TheVariants.{Found, Absent, TooCostly}
use Rattle.pattern_match.specs.Answers.{answered}
use Rattle.pattern_match.specs.OnText.{IsFoundOn, IsToldOn}
use Rattle.pattern_match.proofs.AnswerLaws.{answers-on}
use Rattle.ex_substitute.specs.declared.error.ExError.{ExError}
use Rattle.ex_substitute.specs.declared.searching.Scope.{Scope}
use Rattle.ex_substitute.specs.Answers.{◌>>=◌}
use Rattle.ex_substitute.specs.Changes.{last_to}
use Rattle.ex_substitute.specs.Laws.{IsNextOn, AreInOrder, ReplacementsAreInOrder}
use Rattle.ex_substitute.specs.Searching.{is_empty, is_behind, is_taken, line_from, place_after, ends_later, next_after, places_from, places_count, found_from}
use Rattle.ex_substitute.specs.Trying.{Trial, Counts, told_at, tried, columns, places_in, places_of, first_of}
use Rattle.ex_substitute.proofs.SearchLaws.{after_first}
use Rattle.ex_substitute.proofs.TryLaws.{then_on}

-- ---- the places that are tried are places of lines of the text

pub record IsInLineOf (text : Text) (p : Place) : Type 0 where
  pub on : IsPlaceOf text p
  pub present : p.line < length text

each-both : (P : Place → Type 0) (ps qs : List Place) → Each P ps → Each P qs → Each P (ps ++ qs)
each-both P [] qs h k = k
each-both P (p ∷ ps) qs h k = (h.0, each-both P ps qs h.1 k)

columns-in : (text : Text) (line col more : ℕ) → line < length text → more ≤ length (line_at text line) + 1 - col → Each (IsInLineOf text) (columns line col more)
columns-in text line col zero h few = tt
columns-in text line col (suc more) h few =
    (record { on = record { line = omega arith; col = omega arith }; present = h }, columns-in text line (col + 1) more h (omega arith))

line-in : (text : Text) (line col : ℕ) → line < length text → Each (IsInLineOf text) (places_in text line col)
line-in text line col h = columns-in text line col (length (line_at text line) + 1 - col) h (omega arith)

lines-in : (text : Text) (line more : ℕ) → more ≤ length text - line → Each (IsInLineOf text) (places_of text line more)
lines-in text line zero few = tt
lines-in text line (suc more) few =
    each-both (IsInLineOf text) (places_in text line 0) (places_of text (line + 1) more)
    (line-in text line 0 (omega arith)) (lines-in text (line + 1) more (omega arith))

-- the search goes on in a line of the text
abbrev pub GoesOnIn : Text → Option Place → Type 0
GoesOnIn text None = Unit {0}
GoesOnIn text (Some p) = p.line < length text

from-in : (text : Text) (scope : Scope) (at : Option Place) → scope.b ≤ length text → GoesOnIn text at → Each (IsInLineOf text) (places_from text scope at)
from-in text scope None within h = tt
from-in text scope (Some p) within h =
    each-both (IsInLineOf text) (places_in text p.line p.col) (places_of text (p.line + 1) (scope.b - (p.line + 1)))
    (line-in text p.line p.col h) (lines-in text (p.line + 1) (scope.b - (p.line + 1)) (omega arith))

goes-on-if : (text : Text) (b : Bool) (p : Place) (on : Option Place) → (b ≡ true → p.line < length text) → GoesOnIn text on → GoesOnIn text (cond b (Some p) on)
goes-on-if text true p on h rest = h refl
goes-on-if text false p on h rest = rest

line-from-in : (text : Text) (scope : Scope) (line : ℕ) → scope.b ≤ length text → GoesOnIn text (line_from scope line)
line-from-in text scope line within = goes-on-if text (nat_lt line scope.b) (place line 0) None (λ e. below line scope.b (length text) e within) tt
  where
    below : (line b n : ℕ) → nat_lt line b ≡ true → b ≤ n → line < n
    below line b n e h = grind (arith, nat_tests)

same-line : (m : Match) (b : Bool) → (let p : Place = cond b (behind_character m.to) m.to in p.line) ≡ m.to.line
same-line m true = refl
same-line m false = refl

next-in : (text : Text) (scope : Scope) (m : Match) → scope.b ≤ length text → GoesOnIn text (next_after text scope m)
next-in text scope m within = go scope.all
  where
    below : (line n : ℕ) → nat_lt line n ≡ true → line < n
    below line n e = grind (arith, nat_tests)

    later : (from to b n : ℕ) → (nat_lt from to && nat_lt to b) ≡ true → b ≤ n → to < n
    later from to b n e h = grind (arith, nat_tests)

    go : (all : Bool) → GoesOnIn text (next_after text (record scope { all = all }) m)
    go true = goes-on-if text (nat_lt m.to.line (length text)) (place_after m) None
        (λ e. subst (λ (line : ℕ). line < length text) (sym (same-line m (is_empty m))) (below m.to.line (length text) e)) tt
    go false = goes-on-if text (ends_later scope m) m.to (line_from scope (m.to.line + 1))
        (λ e. later m.from.line m.to.line scope.b (length text) e within) (line-from-in text scope (m.to.line + 1) within)

-- ---- a match that is found was told at one of the places, and counts

pub record IsToldAt (t : Trial) (counts : Counts) (m : Match) (p : Place) : Type 0 where
  pub told : tried t p ≡ Ok (Some m)
  pub counted : counts p m ≡ true

told-here : (t : Trial) (counts : Counts) (m k : Match) (p : Place) (places : List Place) (P : Place → Type 0) (b : Bool) → counts p k ≡ b → P p → tried t p ≡ Ok (Some k) →
    (let all : Result (Option Match) ExError = elim b [ true ↦ Ok (Some k) | false ↦ first_of t counts places ] in all) ≡ Ok (Some m) →
    (first_of t counts places ≡ Ok (Some m) → (q : Place) × P q × IsToldAt t counts m q) → (q : Place) × P q × IsToldAt t counts m q
told-here t counts m k p places P true e h told same on =
    let eq : k ≡ m = cc in
    (p, h, record { told = told ∙ ap (λ (f : Match). let r : Result (Option Match) ExError = Ok (Some f) in r) eq; counted = sym (ap (λ (f : Match). counts p f) eq) ∙ e })
told-here t counts m k p places P false e h told same on = on same

told-first : (t : Trial) (counts : Counts) (m : Match) (p : Place) (places : List Place) (P : Place → Type 0) (told : Result (Option Match) ExError) → tried t p ≡ told → P p →
    then_on t counts p places told ≡ Ok (Some m) →
    (first_of t counts places ≡ Ok (Some m) → (q : Place) × P q × IsToldAt t counts m q) → (q : Place) × P q × IsToldAt t counts m q
told-first t counts m p places P (Ok None) e h same on = on same
told-first t counts m p places P (Ok (Some k)) e h same on = told-here t counts m k p places P (counts p k) refl h e same on
told-first t counts m p places P (Err cause) e h same on = absurd (cc)

pub found-told : (t : Trial) (counts : Counts) (m : Match) (places : List Place) (P : Place → Type 0) → Each P places → first_of t counts places ≡ Ok (Some m) →
    (q : Place) × P q × IsToldAt t counts m q
found-told t counts m [] P each same = absurd (cc)
found-told t counts m (p ∷ places) P each same =
    told-first t counts m p places P (tried t p) refl each.0 same (found-told t counts m places P each.1)

-- ---- what is told of a place of the text lies on the text

told-on : (text : Text) (p : Place) (told : Attempt) (m : Match) → IsToldOn text p told → told_at p told ≡ Ok (Some m) → IsFoundOn text m
told-on text p (Found k looked) m on e = let same : k ≡ m = cc in subst (λ (f : Match). IsFoundOn text f) same on.0
told-on text p (Absent looked) m on e = absurd (cc)
told-on text p TooCostly m on e = absurd (cc)

tried-on : (t : Trial) (p : Place) (m : Match) → IsPlaceOf t.x.text p → tried t p ≡ Ok (Some m) → IsFoundOn t.x.text m
tried-on t p m on e =
    let told = answered t.budget t.x.text p (attempt t.tree t.x p) in
    let one : (tree : PatternTree) → Some t.tree ≡ Some tree → told ≡ answered t.budget t.x.text p (attempt tree t.x p) =
    λ tree same. ap (λ (it : PatternTree). answered t.budget t.x.text p (attempt it t.x p)) (let eq : t.tree ≡ tree = cc in eq) in
    told-on t.x.text p told m (answers-on (t.tree ∷ []) t.budget 0 t.x p told (omega arith) on one) e

-- ---- the matches that are taken

and-both : (a b : Bool) → (a && b) ≡ true → (a ≡ true) × (b ≡ true)
and-both true b e = (refl, e)
and-both false b e = absurd (cc)

next-on : (t : Trial) (scope : Scope) (end at : Option Place) (m : Match) → scope.b ≤ length t.x.text → GoesOnIn t.x.text at →
    first_of t (is_taken end) (places_from t.x.text scope at) ≡ Ok (Some m) → IsNextOn t.x.text end m
next-on t scope end at m within h e =
    let there = found-told t (is_taken end) m (places_from t.x.text scope at) (IsInLineOf t.x.text) (from-in t.x.text scope at within h) e in
    let taken = and-both (nat_eq m.from.line there.0.line) (is_behind end m) there.2.counted in
    record {
      found = tried-on t there.0 m there.1.on there.2.told;
      present = same-below m.from.line there.0.line (length t.x.text) taken.0 there.1.present;
      behind = taken.1;
    }
  where
    same-below : (line at n : ℕ) → nat_eq line at ≡ true → at < n → line < n
    same-below line at n e h = grind (arith, nat_tests)

with-more : (text : Text) (end : Option Place) (m : Match) (found : List Match) (more : Result (List Match) ExError) → IsNextOn text end m →
    ((ms : List Match) → more ≡ Ok ms → AreInOrder text (Some m.to) ms) → (more >>= λ ms. Ok (m ∷ ms)) ≡ Ok found → AreInOrder text end found
with-more text end m found (Ok ms) next rest e =
    let same : m ∷ ms ≡ found = cc in subst (λ (l : List Match). AreInOrder text end l) same (next, rest ms refl)
with-more text end m found (Err cause) next rest e = absurd (cc)

by-told : (t : Trial) (scope : Scope) (room : ℕ) (end at : Option Place) (found : List Match) (told : Result (Option Match) ExError) → scope.b ≤ length t.x.text → GoesOnIn t.x.text at →
    first_of t (is_taken end) (places_from t.x.text scope at) ≡ told →
    ((end at : Option Place) (ms : List Match) → GoesOnIn t.x.text at → found_from t scope room end at ≡ Ok ms → AreInOrder t.x.text end ms) →
    after_first t scope room told ≡ Ok found → AreInOrder t.x.text end found
by-told t scope room end at found (Ok None) within h e rest same = let none : [] ≡ found = cc in subst (λ (l : List Match). AreInOrder t.x.text end l) none tt
by-told t scope room end at found (Ok (Some m)) within h e rest same =
    with-more t.x.text end m found (found_from t scope room (Some m.to) (next_after t.x.text scope m)) (next-on t scope end at m within h e)
    (λ ms is. rest (Some m.to) (next_after t.x.text scope m) ms (next-in t.x.text scope m within) is) same
by-told t scope room end at found (Err cause) within h e rest same = absurd (cc)

found-in-order : (t : Trial) (scope : Scope) (room : ℕ) (end at : Option Place) (found : List Match) → scope.b ≤ length t.x.text → GoesOnIn t.x.text at →
    found_from t scope room end at ≡ Ok found → AreInOrder t.x.text end found
found-in-order t scope zero end at found within h e = let none : [] ≡ found = cc in subst (λ (l : List Match). AreInOrder t.x.text end l) none tt
found-in-order t scope (suc room) end at found within h e =
    by-told t scope room end at found (first_of t (is_taken end) (places_from t.x.text scope at)) within h refl
    (λ end at ms h is. found-in-order t scope room end at ms within h is) e

pub in-order : ReplacementsAreInOrder
in-order t scope a found within e =
    found-in-order t scope (places_count t.x.text + 1) None (line_from scope a) found within (line-from-in t.x.text scope a within) e

-- ---- the lines of the first and of the last

from-to : (fl fc tl tc : ℕ) → (nat_lt tl fl || (nat_eq tl fl && nat_lt tc fc)) ≡ false → fl ≤ tl
from-to fl fc tl tc e = grind (arith, nat_tests)

ends-before : (el ec fl fc : ℕ) (b : Bool) → (not (nat_lt fl el || (nat_eq fl el && nat_lt fc ec)) && b) ≡ true → el ≤ fl
ends-before el ec fl fc b e = grind (arith, nat_tests)

first-line : (text : Text) (end : Option Place) (m : Match) → IsNextOn text end m → m.from.line ≤ m.to.line
first-line text end m h = from-to m.from.line m.from.col m.to.line m.to.col h.found.whole.in_order

-- the last ends in a later line than the first begins in, or in that
pub last-behind : (text : Text) (end : Option Place) (m : Match) (ms : List Match) → AreInOrder text end (m ∷ ms) → m.from.line ≤ (last_to m ms).line
last-behind text end m [] h = first-line text end m h.0
last-behind text end m (k ∷ ms) h =
    let here : m.from.line ≤ m.to.line = first-line text end m h.0 in
    let next : m.to.line ≤ k.from.line = ends-before m.to.line m.to.col k.from.line k.from.col (not (is_empty k && is_same_place k.from m.to)) h.1.0.behind in
    let later : k.from.line ≤ (last_to k ms).line = last-behind text (Some m.to) k ms h.1 in
    omega arith

pub last-within : (text : Text) (end : Option Place) (m : Match) (ms : List Match) → AreInOrder text end (m ∷ ms) → (last_to m ms).line ≤ length text
last-within text end m [] h = h.0.found.whole.ends.line
last-within text end m (k ∷ ms) h = last-within text (Some m.to) k ms h.1

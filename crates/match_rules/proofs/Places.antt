-- Places of a text, and how many stand behind them.
use Rattle.std.proofs.Common.{◌≡◌, ℕ, ◌+◌, ◌-◌, ◌<◌, ◌≤◌, ◌⊎◌, inl, inr, true, List, [], length, drop, arith, subst}
use Rattle.std.specs.Prelude.{sum_by}
use Rattle.std.proofs.lemmas.List.Sums.{sum_by-drop_more, sum_by-take-drop}
use Rattle.std.proofs.lemmas.List.{drop-drop, get_or_past}
use Rattle.syn_base.specs.declared.places.Place.{Place}
use Rattle.match_rules.specs.Ways.{Text, line_at, IsPlaceOf, is_after}
use Rattle.match_rules.specs.Counts.{places_behind}

abbrev pub size : List ℕ → ℕ
size line = length line + 1

after_cases : (p q : Place) → is_after q p ≡ true → (p.line < q.line) ⊎ ((p.line ≡ q.line) × (p.col < q.col))
after_cases p q h = grind (arith)

drop_less : (text : Text) (l k : ℕ) → sum_by size (drop k (drop l text)) ≤ sum_by size (drop l text)
drop_less text l k = omega (arith, sum_by-take-drop size (drop l text) k)

later_less : (text : Text) (l m : ℕ) → l ≤ m → sum_by size (drop m text) ≤ sum_by size (drop l text)
later_less text l m h =
    let e : l + (m - l) ≡ m = omega arith in
    subst (λ k. sum_by size (drop k text) ≤ sum_by size (drop l text)) e
    (rw (← drop-drop (m - l) l text) (drop_less text l (m - l)))

-- the places from a present line on
here_more : (text : Text) (l : ℕ) → l < length text → sum_by size (drop l text) ≡ length (line_at text l) + 1 + sum_by size (drop (l + 1) text)
here_more text l h = sum_by-drop_more size text l [] h

-- a place that has a character behind it stands in a present line
pub present_line : (text : Text) (p : Place) (col : ℕ) → p.line ≤ length text → col < length (line_at text p.line) → p.line < length text
present_line text p col h k = grind (arith, get_or_past)

behind_in_line : (text : Text) (p q : Place) → IsPlaceOf text p → IsPlaceOf text q → p.line ≡ q.line → p.col < q.col → places_behind text q < places_behind text p
behind_in_line text p q a b e h =
    let k : q.col ≤ length (line_at text p.line) = rw e b.col in
    let n : p.line < length text = present_line text p p.col a.line (omega arith) in
    rw (← e) (omega (arith, here_more text p.line n))

-- a place that is after another has fewer places behind it
pub fewer_behind : (text : Text) (p q : Place) → IsPlaceOf text p → IsPlaceOf text q → is_after q p ≡ true → places_behind text q < places_behind text p
fewer_behind text p q a b h =
    elim (after_cases p q h) [
      | inl lt ↦ (let n : p.line < length text = omega arith in
          omega (arith, here_more text p.line n, later_less text (p.line + 1) q.line (omega arith)))
      | inr eq ↦ behind_in_line text p q a b eq.0 eq.1
    ]

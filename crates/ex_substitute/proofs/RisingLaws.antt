-- The chosen lines rise, and how many others are left.
use Rattle.std.proofs.Common.{◌≡◌, ◌<◌, ◌≤◌, ◌+◌, ◌-◌, ℕ, zero, suc, Bool, true, false, cond, nat_eq, List, [], ◌∷◌, take, drop, length, refl, subst, arith, length-append}
use Rattle.std.specs.Prelude.{Result, Ok, Err}
use Rattle.std.proofs.lemmas.Bool.Decides.{nat_tests}
use Rattle.std.proofs.lemmas.List.{length-take, length-drop}
use Rattle.match_rules.specs.Ways.{Text}
use Rattle.ex_substitute.specs.declared.error.ExError.{ExError}
use Rattle.ex_substitute.specs.Answers.{◌>>=◌}
use Rattle.ex_substitute.specs.Changes.{lines_after}
use Rattle.ex_substitute.specs.Deleting.{is_chosen, chosen_from, kept_from, last_of, deletion}
use Rattle.ex_substitute.specs.Trying.{Trial}

-- from a number on, each greater than the one before
abbrev pub IsRising : ℕ → ℕ → List ℕ → Type 0
IsRising line end [] = Unit {0}
IsRising line end (chosen ∷ rest) = (line ≤ chosen) × (chosen < end) × IsRising (chosen + 1) end rest

from-before : (line end : ℕ) (chosen : List ℕ) → IsRising (line + 1) end chosen → IsRising line end chosen
from-before line end [] h = tt
from-before line end (x ∷ rest) h = let low : line + 1 ≤ x = h.0 in (omega arith, h.1, h.2)

with-choice : (line end : ℕ) (taken : Bool) (rest found : List ℕ) → line < end → IsRising (line + 1) end rest →
    (let r : Result (List ℕ) ExError = Ok (cond taken (line ∷ rest) rest) in r) ≡ Ok found → IsRising line end found
with-choice line end true rest found h rising e =
    let same : line ∷ rest ≡ found = cc in subst (λ (l : List ℕ). IsRising line end l) same (let low : line ≤ line = omega arith in low, h, rising)
with-choice line end false rest found h rising e =
    let same : rest ≡ found = cc in subst (λ (l : List ℕ). IsRising line end l) same (from-before line end rest rising)

with-rest : (line end : ℕ) (taken : Bool) (told : Result (List ℕ) ExError) (found : List ℕ) → line < end →
    ((rest : List ℕ) → told ≡ Ok rest → IsRising (line + 1) end rest) → (told >>= λ rest. Ok (cond taken (line ∷ rest) rest)) ≡ Ok found → IsRising line end found
with-rest line end taken (Ok rest) found h rising e = with-choice line end taken rest found h (rising rest refl) e
with-rest line end taken (Err cause) found h rising e = absurd (cc)

with-told : (line end : ℕ) (choice : Result Bool ExError) (told : Result (List ℕ) ExError) (found : List ℕ) → line < end →
    ((rest : List ℕ) → told ≡ Ok rest → IsRising (line + 1) end rest) → (choice >>= λ chosen. (told >>= λ rest. Ok (cond chosen (line ∷ rest) rest))) ≡ Ok found → IsRising line end found
with-told line end (Ok taken) told found h rising e = with-rest line end taken told found h rising e
with-told line end (Err cause) told found h rising e = absurd (cc)

pub chosen-rise : (t : Trial) (others : Bool) (line more end : ℕ) (found : List ℕ) → line + more ≤ end → chosen_from t others line more ≡ Ok found → IsRising line end found
chosen-rise t others line zero end found h e = let none : [] ≡ found = cc in subst (λ (l : List ℕ). IsRising line end l) none tt
chosen-rise t others line (suc more) end found h e =
    with-told line end (is_chosen t others line) (chosen_from t others (line + 1) more) found (omega arith)
    (λ rest is. chosen-rise t others (line + 1) more end rest (omega arith) is) e

pub last-in-range : (first end : ℕ) (rest : List ℕ) → first < end → IsRising (first + 1) end rest → last_of first rest < end
last-in-range first end [] h rising = h
last-in-range first end (x ∷ rest) h rising = last-in-range x end rest rising.1 rising.2

-- the lines between are all from the first to the last but those that are chosen
pub kept-count : (text : Text) (first : ℕ) (rest : List ℕ) → IsRising (first + 1) (length text) rest → length (kept_from text (first + 1) rest) + length rest + first ≡ last_of first rest
kept-count text first [] h = omega arith
kept-count text first (x ∷ rest) h =
    let low : first + 1 ≤ x = h.0 in
    let high : x < length text = h.1 in
    let later : length (kept_from text (x + 1) rest) + length rest + x ≡ last_of x rest = kept-count text x rest h.2 in
    let gap = take (x - (first + 1)) (drop (first + 1) text) in
    let both = length-append gap (kept_from text (x + 1) rest) in
    let count = length-take (x - (first + 1)) (drop (first + 1) text) in
    let left = length-drop (first + 1) text in
    omega arith

some-other : (rest n last first kept : ℕ) → nat_eq (suc rest) n ≡ false → kept + rest + first ≡ last → last < n → 0 < n - (last + 1 - first) + kept
some-other rest n last first kept e count below = grind (arith, nat_tests)

pub some-left : (text : Text) (first : ℕ) (rest : List ℕ) → first < length text → IsRising (first + 1) (length text) rest → 0 < lines_after text (deletion text first rest)
some-left text first rest h rising = go (nat_eq (length (first ∷ rest)) (length text)) refl
  where
    go : (b : Bool) → nat_eq (length (first ∷ rest)) (length text) ≡ b →
        0 < length text - (last_of first rest + 1 - first) + length (cond b ([] ∷ []) (kept_from text (first + 1) rest))
    go true e = omega arith
    go false e =
        let kept = kept-count text first rest rising in
        let last = last-in-range first (length text) rest h rising in
        some-other (length rest) (length text) (last_of first rest) first (length (kept_from text (first + 1) rest)) e kept last

-- A deletion leaves the lines that aren't chosen.
use Rattle.std.proofs.Common.{◌≡◌, ◌<◌, ◌≤◌, ◌+◌, ◌-◌, ℕ, zero, suc, Bool, true, false, cond, ◌||◌, nat_eq, List, [], ◌∷◌, ◌++◌, take, drop, length, ap, refl, sym, ◌∙◌, subst, arith, append_assoc, length-append}
use Rattle.std.specs.List.{list_any}
use Rattle.std.proofs.lemmas.Bool.Decides.{nat_tests}
use Rattle.std.proofs.lemmas.List.{drop-drop, drop_more, drop_all, length-take, length-drop, nil_from_length}
use Rattle.match_rules.specs.Ways.{Text, line_at}
use Rattle.ex_substitute.specs.Deleting.{kept_from, last_of, deletion}
use Rattle.ex_substitute.specs.Fitting.{text_after}
use Rattle.ex_substitute.specs.Laws.{others_from, at_least_one, OthersAreLeft}
use Rattle.ex_substitute.proofs.RisingLaws.{IsRising, chosen-rise, last-in-range, kept-count}

abbrev is_among : List ℕ → ℕ → Bool
is_among chosen number = list_any (λ k. nat_eq k number) chosen

-- ---- one line after the other

-- a number below all isn't among them
below-all : (number line end : ℕ) (chosen : List ℕ) → number < line → IsRising line end chosen → is_among chosen number ≡ false
below-all number line end [] h rising = refl
below-all number line end (x ∷ rest) h rising =
    let low : line ≤ x = rising.0 in
    let other : nat_eq x number ≡ false = grind (arith, nat_tests) in
    ap (λ b. b || is_among rest number) other ∙ below-all number (x + 1) end rest (omega arith) rising.2

none-chosen : (number : ℕ) (text : Text) → others_from number text [] ≡ text
none-chosen number [] = refl
none-chosen number (line ∷ text) = ap (λ l. line ∷ l) (none-chosen (number + 1) text)

-- a number that was passed chooses nothing more
past-chosen : (number x : ℕ) (text : Text) (rest : List ℕ) → x < number → others_from number text (x ∷ rest) ≡ others_from number text rest
past-chosen number x [] rest h = refl
past-chosen number x (line ∷ text) rest h =
    let other : nat_eq x number ≡ false = grind (arith, nat_tests) in
    ap (λ b. cond (b || is_among rest number) (others_from (number + 1) text (x ∷ rest)) (line ∷ others_from (number + 1) text (x ∷ rest))) other
    ∙ ap (λ l. cond (is_among rest number) l (line ∷ l)) (past-chosen (number + 1) x text rest (omega arith))

-- so many lines before the first chosen one stay
before-chosen : (number more end : ℕ) (text : Text) (chosen : List ℕ) → IsRising (number + more) end chosen →
    others_from number text chosen ≡ take more text ++ others_from (number + more) (drop more text) chosen
before-chosen number zero end text chosen h = let e : number ≡ number + 0 = omega arith in ap (λ n. others_from n text chosen) e
before-chosen number (suc more) end [] chosen h = refl
before-chosen number (suc more) end (line ∷ text) chosen h =
    let next : number + suc more ≡ number + 1 + more = omega arith in
    let rising : IsRising (number + 1 + more) end chosen = subst (λ (n : ℕ). IsRising n end chosen) next h in
    ap (λ b. cond b (others_from (number + 1) text chosen) (line ∷ others_from (number + 1) text chosen)) (below-all number (number + suc more) end chosen (omega arith) h)
    ∙ ap (λ l. line ∷ l) (before-chosen (number + 1) more end text chosen rising)
    ∙ ap (λ n. line ∷ (take more text ++ others_from n (drop more text) chosen)) (sym next)

one-chosen : (text : Text) (x : ℕ) (rest : List ℕ) → x < length text → others_from x (drop x text) (x ∷ rest) ≡ others_from (x + 1) (drop (x + 1) text) rest
one-chosen text x rest h =
    let here = line_at text x in
    let behind = drop (x + 1) text in
    let same : nat_eq x x ≡ true = grind (arith, nat_tests) in
    ap (λ l. others_from x l (x ∷ rest)) (drop_more text x [] h)
    ∙ ap (λ b. cond (b || is_among rest x) (others_from (x + 1) behind (x ∷ rest)) (here ∷ others_from (x + 1) behind (x ∷ rest))) same
    ∙ past-chosen (x + 1) x behind rest (omega arith)

-- ---- all of them

behind-first : (text : Text) (first : ℕ) (rest : List ℕ) → IsRising (first + 1) (length text) rest →
    others_from (first + 1) (drop (first + 1) text) rest ≡ kept_from text (first + 1) rest ++ drop (last_of first rest + 1) text
behind-first text first [] h = none-chosen (first + 1) (drop (first + 1) text)
behind-first text first (x ∷ rest) h =
    let low : first + 1 ≤ x = h.0 in
    let line = first + 1 in
    let gap = take (x - line) (drop line text) in
    let at : line + (x - line) ≡ x = omega arith in
    let rising : IsRising (line + (x - line)) (length text) (x ∷ rest) = (let e : line + (x - line) ≤ x = omega arith in e, h.1, h.2) in
    before-chosen line (x - line) (length text) (drop line text) (x ∷ rest) rising
    ∙ ap (λ l. gap ++ others_from (line + (x - line)) l (x ∷ rest)) (drop-drop (x - line) line text)
    ∙ ap (λ n. gap ++ others_from n (drop n text) (x ∷ rest)) at
    ∙ ap (λ l. gap ++ l) (one-chosen text x rest h.1 ∙ behind-first text x rest h.2)
    ∙ sym (append_assoc gap (kept_from text (x + 1) rest) (drop (last_of x rest + 1) text))

others-are : (text : Text) (first : ℕ) (rest : List ℕ) → first < length text → IsRising (first + 1) (length text) rest →
    others_from 0 text (first ∷ rest) ≡ take first text ++ kept_from text (first + 1) rest ++ drop (last_of first rest + 1) text
others-are text first rest h rising =
    let at : 0 + first ≡ first = omega arith in
    let all : IsRising (0 + first) (length text) (first ∷ rest) = (let e : 0 + first ≤ first = omega arith in e, h, rising) in
    before-chosen 0 first (length text) text (first ∷ rest) all
    ∙ ap (λ n. take first text ++ others_from n (drop first text) (first ∷ rest)) at
    ∙ ap (λ l. take first text ++ l) (one-chosen text first rest h ∙ behind-first text first rest rising)
    ∙ sym (append_assoc (take first text) (kept_from text (first + 1) rest) (drop (last_of first rest + 1) text))

-- how many
others-count : (text : Text) (first : ℕ) (rest : List ℕ) → first < length text → IsRising (first + 1) (length text) rest →
    length (others_from 0 text (first ∷ rest)) + suc (length rest) ≡ length text
others-count text first rest h rising =
    let kept = kept_from text (first + 1) rest in
    let count = kept-count text first rest rising in
    let last = last-in-range first (length text) rest h rising in
    let both = length-append (take first text ++ kept) (drop (last_of first rest + 1) text) in
    let front = length-append (take first text) kept in
    let before = length-take first text in
    let behind = length-drop (last_of first rest + 1) text in
    let all = ap (λ (l : Text). length l) (others-are text first rest h rising) in
    omega arith

some-lines : (lines : Text) → 0 < length lines → at_least_one lines ≡ lines
some-lines [] h = absurd (omega arith)
some-lines (line ∷ lines) h = refl

-- where all are chosen, the first is the first of the text, and the last its last
all-chosen : (count n first last kept : ℕ) → nat_eq (suc count) n ≡ true → kept + count + first ≡ last → last < n → (first ≡ 0) × (n ≤ last + 1)
all-chosen count n first last kept e sum below = (grind (arith, nat_tests), grind (arith, nat_tests))

some-other : (count n others : ℕ) → nat_eq (suc count) n ≡ false → others + suc count ≡ n → 0 < others
some-other count n others e sum = grind (arith, nat_tests)

none-other : (count n others : ℕ) → nat_eq (suc count) n ≡ true → others + suc count ≡ n → others ≡ 0
none-other count n others e sum = grind (arith, nat_tests)

others-left : (text : Text) (first : ℕ) (rest : List ℕ) → first < length text → IsRising (first + 1) (length text) rest →
    text_after text (deletion text first rest) ≡ at_least_one (others_from 0 text (first ∷ rest))
others-left text first rest h rising = go (nat_eq (length (first ∷ rest)) (length text)) refl
  where
    go : (b : Bool) → nat_eq (length (first ∷ rest)) (length text) ≡ b →
        take first text ++ cond b ([] ∷ []) (kept_from text (first + 1) rest) ++ drop (last_of first rest + 1) text ≡ at_least_one (others_from 0 text (first ∷ rest))
    go true e =
        let ends = all-chosen (length rest) (length text) first (last_of first rest) (length (kept_from text (first + 1) rest)) e
        (kept-count text first rest rising) (last-in-range first (length text) rest h rising) in
        let none = nil_from_length (others_from 0 text (first ∷ rest)) (none-other (length rest) (length text) (length (others_from 0 text (first ∷ rest))) e (others-count text first rest h rising)) in
        ap (λ n. take n text ++ ([] ∷ []) ++ drop (last_of first rest + 1) text) ends.0
        ∙ ap (λ l. ([] ∷ []) ++ l) (drop_all (last_of first rest + 1) text ends.1) ∙ sym (ap (λ l. at_least_one l) none)
    go false e =
        let all = others_from 0 text (first ∷ rest) in
        sym (some-lines all (some-other (length rest) (length text) (length all) e (others-count text first rest h rising)) ∙ others-are text first rest h rising)

pub left-are-others : OthersAreLeft
left-are-others t others a b first rest order within e =
    let rising = chosen-rise t others a (b - a) (length t.x.text) (first ∷ rest) (omega arith) e in
    others-left t.x.text first rest rising.1 rising.2

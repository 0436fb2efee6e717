-- One line after the other, and what is left between those that are chosen.
use Rattle.std.proofs.Common.{◌≡◌, ◌<◌, ◌≤◌, ◌+◌, ◌-◌, ◌==◌, ℕ, suc, Bool, true, false, cond, List, [], ◌∷◌, ◌++◌, length, take, drop, get_or, ap, refl, sym, ◌∙◌, arith, append_assoc}
use Rattle.std.specs.Prelude.{Some, Result, Ok, Err, slice_get}
use Rattle.std.proofs.lemmas.Option.{get_or_from_slice_get}
use Rattle.std.proofs.lemmas.List.{append-nil, take_more, get_or-drop, length-drop, drop_more}
use Rattle.ex_substitute.specs.declared.error.ExError.{ExError}
use Rattle.ex_substitute.specs.declared.refusal.Refusal.{Refusal}
use Rattle.ex_substitute.specs.Answers.{◌>>=◌, FailsAs}
use Rattle.ex_substitute.specs.Deleting.{is_chosen, chosen_from, last_of, kept_from}
use Rattle.ex_substitute.specs.Trying.{Trial}
use Rattle.ex_substitute.proofs.AnswerLaws.{fails-on, joined_to}

-- ---- chosen lines

abbrev first_and : Trial → Bool → ℕ → ℕ → Result Bool ExError → Result (List ℕ) ExError
first_and t others line more told =
    told >>= λ chosen. (chosen_from t others (line + 1) more >>= λ rest. Ok (cond chosen (line ∷ rest) rest))

from-line : (t : Trial) (others : Bool) (line b : ℕ) → line < b →
    chosen_from t others line (b - line) ≡ first_and t others line (b - (line + 1)) (is_chosen t others line)
from-line t others line b h = let e : b - line ≡ suc (b - (line + 1)) = omega arith in ap (λ n. chosen_from t others line n) e

with-yes : (before : List ℕ) (line : ℕ) (more : Result (List ℕ) ExError) →
    joined_to (before ++ line ∷ []) more ≡ joined_to before (more >>= λ rest. Ok (line ∷ rest))
with-yes before line (Ok rest) = ap (λ (l : List ℕ). let r : Result (List ℕ) ExError = Ok l in r) (append_assoc before (line ∷ []) rest)
with-yes before line (Err e) = refl

with-no : (before : List ℕ) (more : Result (List ℕ) ExError) →
    joined_to before more ≡ joined_to before (more >>= λ rest. Ok rest)
with-no before (Ok rest) = refl
with-no before (Err e) = refl

pub one-chosen : (t : Trial) (others : Bool) (before : List ℕ) (line b : ℕ) → line < b → is_chosen t others line ≡ Ok true →
    joined_to (before ++ line ∷ []) (chosen_from t others (line + 1) (b - (line + 1))) ≡ joined_to before (chosen_from t others line (b - line))
one-chosen t others before line b h e =
    with-yes before line (chosen_from t others (line + 1) (b - (line + 1)))
    ∙ sym (ap (λ r. joined_to before r) (from-line t others line b h ∙ ap (λ told. first_and t others line (b - (line + 1)) told) e))

pub one-left : (t : Trial) (others : Bool) (before : List ℕ) (line b : ℕ) → line < b → is_chosen t others line ≡ Ok false →
    joined_to before (chosen_from t others (line + 1) (b - (line + 1))) ≡ joined_to before (chosen_from t others line (b - line))
one-left t others before line b h e =
    with-no before (chosen_from t others (line + 1) (b - (line + 1)))
    ∙ sym (ap (λ r. joined_to before r) (from-line t others line b h ∙ ap (λ told. first_and t others line (b - (line + 1)) told) e))

one-costly : (t : Trial) (others : Bool) (before : List ℕ) (line b : ℕ) (cause : ExError) → line < b → is_chosen t others line ≡ Err cause →
    joined_to before (chosen_from t others line (b - line)) ≡ Err cause
one-costly t others before line b cause h e =
    ap (λ r. joined_to before r) (from-line t others line b h ∙ ap (λ told. first_and t others line (b - (line + 1)) told) e)

pub one-refused : (t : Trial) (others : Bool) (before : List ℕ) (line b : ℕ) (all : Result (List ℕ) ExError) (e : Refusal) → line < b →
    joined_to before (chosen_from t others line (b - line)) ≡ all → FailsAs e (is_chosen t others line) → FailsAs e all
one-refused t others before line b all e h rest =
    fails-on e (is_chosen t others line) all (λ cause told. sym rest ∙ one-costly t others before line b cause h told)

pub no-more : (t : Trial) (others : Bool) (before : List ℕ) (line b : ℕ) → b ≤ line →
    joined_to before (chosen_from t others line (b - line)) ≡ Ok before
no-more t others before line b h =
    let e : b - line ≡ 0 = omega arith in
    ap (λ n. joined_to before (chosen_from t others line n)) e ∙ ap (λ (l : List ℕ). let r : Result (List ℕ) ExError = Ok l in r) (append-nil before)

-- ---- the last one

last-of-get : (first : ℕ) (rest : List ℕ) → last_of first rest ≡ get_or (first ∷ rest) (length rest) 0
last-of-get first [] = refl
last-of-get first (x ∷ rest) = last-of-get x rest

pub last_of_some : (first : ℕ) (rest : List ℕ) (d : ℕ) → (length rest == 0) ≡ false → get_or rest (length rest - 1) d ≡ last_of first rest
last_of_some first [] d e = absurd (cc)
last_of_some first (x ∷ rest) d e =
    let less : length (x ∷ rest) - 1 ≡ length rest = omega arith in
    ap (λ i. get_or (x ∷ rest) i d) less ∙ at-end x rest d ∙ sym (last-of-get x rest)
  where
    at-end : (y : ℕ) (ys : List ℕ) (d : ℕ) → get_or (y ∷ ys) (length ys) d ≡ get_or (y ∷ ys) (length ys) 0
    at-end y [] d = refl
    at-end y (z ∷ ys) d = at-end z ys d

pub last-below : (n first : ℕ) (rest : List ℕ) → first < n → ((k : ℕ) (d : ℕ) → k < length rest → get_or rest k d < n) → last_of first rest < n
last-below n first [] h below = h
last-below n first (x ∷ rest) h below = last-below n x rest (below 0 0 (omega arith)) (λ k d l. below (suc k) d (omega arith))

-- ---- lines that are put at the end

pub one-line-more : {A : Type 0} (text : List A) (from line : ℕ) (d : A) → from ≤ line → line < length text →
    take (line + 1 - from) (drop from text) ≡ take (line - from) (drop from text) ++ get_or text line d ∷ []
one-line-more text from line d h l =
    let next : line + 1 - from ≡ line - from + 1 = omega arith in
    let at : from + (line - from) ≡ line = omega arith in
    let within : line - from < length (drop from text) = omega (arith, length-drop from text) in
    ap (λ n. take n (drop from text)) next ∙ take_more (drop from text) (line - from) d within
    ∙ ap (λ x. take (line - from) (drop from text) ++ x ∷ []) (get_or-drop from text (line - from) d ∙ ap (λ i. get_or text i d) at)

-- ---- what stands between chosen lines

-- up to one of them
pub kept-up-to : (text new : List (List ℕ)) (line : ℕ) (chosen : List ℕ) (i : ℕ) (d : ℕ) → i < length chosen →
    (new ++ take (get_or chosen i d - line) (drop line text)) ++ kept_from text (get_or chosen i d + 1) (drop (i + 1) chosen)
    ≡ new ++ kept_from text line (drop i chosen)
kept-up-to text new line chosen i d h =
    let here = get_or chosen i d in
    append_assoc new (take (here - line) (drop line text)) (kept_from text (here + 1) (drop (i + 1) chosen))
    ∙ ap (λ ls. new ++ kept_from text line ls) (sym (drop_more chosen i d h))

-- a copy of the next line is put at the end
pub pushed : {A : Type 0} (before text new more : List A) (from line : ℕ) (copy x : A) → from ≤ line → line < length text →
    new ≡ before ++ take (line - from) (drop from text) → more ≡ new ++ copy ∷ [] → copy ≡ x → Some x ≡ slice_get text line →
    more ≡ before ++ take (line + 1 - from) (drop from text)
pushed before text new more from line copy x h l so-far put same there =
    put ∙ ap (λ n. n ++ copy ∷ []) so-far ∙ append_assoc before (take (line - from) (drop from text)) (copy ∷ [])
    ∙ ap (λ y. before ++ (take (line - from) (drop from text) ++ y ∷ [])) (same ∙ sym (get_or_from_slice_get text line x x (sym there)))
    ∙ ap (λ ls. before ++ ls) (sym (one-line-more text from line x h l))

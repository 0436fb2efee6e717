-- Words that stand in a line as they are spelled, and how much of a line is left behind them.
use Rattle.std.proofs.Common.{◌≡◌, ℕ, zero, suc, ◌≤◌, ◌-◌, Bool, true, false, List, [], ◌∷◌, ◌++◌}
use Rattle.std.proofs.Common.{length, take, refl, ap, ◌∙◌, arith, cond}
use Rattle.std.specs.Prelude.{not, ◌&&◌}
use Rattle.std.specs.List.{list_all}
use Rattle.text_scan.specs.Characters.{is_blank, past_blanks}
use Rattle.word_reader.specs.declared.words.Until.{Until}
use Rattle.word_reader.specs.Words.{past, run, stops}

pub and_left : (a b : Bool) → (a && b) ≡ true → a ≡ true
and_left true b both = refl
and_left false b both = both

pub and_right : (a b : Bool) → (a && b) ≡ true → b ≡ true
and_right true b both = both
and_right false b both = absurd cc

pub not_true : (a : Bool) → not a ≡ true → a ≡ false
not_true true h = absurd (cc h)
not_true false h = refl

pub otherwise : {A : Type 0} (b : Bool) (x y : A) → b ≡ false → cond b x y ≡ y
otherwise true x y is = absurd cc
otherwise false x y is = refl

-- none of the characters ends such a run
abbrev pub goes_on : Until → List ℕ → Bool
goes_on until word = list_all (λ c. not (stops until c)) word

-- such a run ends here
abbrev pub ends_run : Until → List ℕ → Bool
ends_run until [] = true
ends_run until (c ∷ cs) = stops until c

pub run_behind : (u : Until) (word rest : List ℕ) → ends_run u rest ≡ true
    → run u (word ++ rest) ≡ run u word
run_behind u [] [] end = refl
run_behind u [] (c ∷ rest) end = rw end refl
run_behind u (c ∷ word) rest end = ap (λ w. cond (stops u c) [] (c ∷ w)) (run_behind u word rest end)

pub run_whole : (u : Until) (word : List ℕ) → goes_on u word ≡ true → run u word ≡ word
run_whole u [] all = refl
run_whole u (c ∷ word) all =
    let here : stops u c ≡ false = not_true (stops u c) (and_left (not (stops u c)) (goes_on u word) all) in
    rw here (ap (λ w. c ∷ w) (run_whole u word (and_right (not (stops u c)) (goes_on u word) all)))

pub run_word : (u : Until) (word rest : List ℕ) → goes_on u word ≡ true → ends_run u rest ≡ true
    → run u (word ++ rest) ≡ word
run_word u word rest all end = run_behind u word rest end ∙ run_whole u word all

pub past_word : (u : Until) (word rest : List ℕ) → goes_on u word ≡ true → ends_run u rest ≡ true
    → past u (word ++ rest) ≡ rest
past_word u [] [] all end = refl
past_word u [] (c ∷ rest) all end = rw end refl
past_word u (c ∷ word) rest all end =
    let here : stops u c ≡ false = not_true (stops u c) (and_left (not (stops u c)) (goes_on u word) all) in
    rw here (past_word u word rest (and_right (not (stops u c)) (goes_on u word) all) end)

-- what is left is no longer

pub shorter_of : (b : Bool) (xs ys : List ℕ) (n : ℕ) → length xs ≤ n → length ys ≤ n
    → length (cond b xs ys) ≤ n
shorter_of true xs ys n p q = p
shorter_of false xs ys n p q = q

pub past_shorter : (u : Until) (text : List ℕ) → length (past u text) ≤ length text
past_shorter u [] = omega arith
past_shorter u (c ∷ cs) =
    let h = past_shorter u cs in
    shorter_of (stops u c) (c ∷ cs) (past u cs) (length (c ∷ cs)) (omega arith) (omega arith)

-- what such a run takes is the front of the text, up to what is left

first_by : (b : Bool) (c : ℕ) (cs left word : List ℕ) → length left ≤ length cs
    → take (length cs - length left) cs ≡ word
    → take (length (c ∷ cs) - length (cond b (c ∷ cs) left)) (c ∷ cs) ≡ cond b [] (c ∷ word)
first_by true c cs left word fits is =
    let none : suc (length cs) - suc (length cs) ≡ zero = omega arith in
    ap (λ n. take n (c ∷ cs)) none
first_by false c cs left word fits is =
    let one : suc (length cs) - length left ≡ suc (length cs - length left) = omega (arith, fits) in
    ap (λ n. take n (c ∷ cs)) one ∙ ap (λ w. c ∷ w) is

pub run_first : (u : Until) (text : List ℕ)
    → take (length text - length (past u text)) text ≡ run u text
run_first u [] = refl
run_first u (c ∷ cs) =
    first_by (stops u c) c cs (past u cs) (run u cs) (past_shorter u cs) (run_first u cs)

pub blanks_shorter : (text : List ℕ) → length (past_blanks text) ≤ length text
blanks_shorter [] = omega arith
blanks_shorter (c ∷ cs) =
    let h = blanks_shorter cs in
    shorter_of (is_blank c) (past_blanks cs) (c ∷ cs) (length (c ∷ cs)) (omega arith) (omega arith)

-- two ways by one test
pub same_by : {A : Type 0} (b : Bool) (x y z w : A) → (b ≡ true → x ≡ z) → (b ≡ false → y ≡ w)
    → cond b x y ≡ cond b z w
same_by true x y z w p q = p refl
same_by false x y z w p q = q refl

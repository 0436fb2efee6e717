-- How much of a line is left behind each of its parts: never more characters than there were.
use Rattle.std.proofs.Common.{◌≡◌, ℕ, suc, ◌≤◌, Bool, true, false, List, [], ◌∷◌, length, refl}
use Rattle.std.proofs.Common.{arith, cond}
use Rattle.std.specs.Prelude.{Result, Ok, Err, nat_eq, if◌then◌else◌}
use Rattle.text_scan.specs.Characters.{is_blank, past_blanks}
use Rattle.word_reader.specs.declared.words.Until.{Until}
use Rattle.word_reader.specs.declared.words.Until.TheVariants as until
use Rattle.word_reader.specs.Words.{begins, behind_equals, behind_first, has_equals, is_over, past}
use Rattle.word_reader.specs.Words.{run, stops}
use Rattle.syn_words.specs.declared.cause.Cause.{Cause}
use Rattle.syn_words.specs.declared.cause.Cause.TheVariants.{MissingArgument}
use Rattle.syn_words.specs.Answers.{Read, ◌>>=◌}
use Rattle.syn_words.specs.Arguments.{argument, value_start, word_start, word_start_at}
use Rattle.syn_words.proofs.WordLaws.{blanks_shorter, past_shorter}

-- what is left of an answer has no more than so many characters
abbrev pub Leaves : {A : Type 0} → ℕ → Read A → Type 0
Leaves n (Ok p) = length p.1 ≤ n
Leaves n (Err c) = Unit {0}

abbrev pub LeavesText : ℕ → Result (List ℕ) Cause → Type 0
LeavesText n (Ok rest) = length rest ≤ n
LeavesText n (Err c) = Unit {0}

-- one step after the other

pub left_behind : {A B : Type 0} (n m : ℕ) (r : Read A) (f : A × List ℕ → Read B)
    → Leaves n r → ((p : A × List ℕ) → length p.1 ≤ n → Leaves m (f p)) → Leaves m (r >>= f)
left_behind n m (Ok p) f fits later = later p fits
left_behind n m (Err c) f fits later = tt

pub left_from : {B : Type 0} (n m : ℕ) (r : Result (List ℕ) Cause) (f : List ℕ → Read B)
    → LeavesText n r → ((rest : List ℕ) → length rest ≤ n → Leaves m (f rest)) → Leaves m (r >>= f)
left_from n m (Ok rest) f fits later = later rest fits
left_from n m (Err c) f fits later = tt

pub left_by : {A B : Type 0} (m : ℕ) (r : Result A Cause) (f : A → Read B)
    → ((x : A) → Leaves m (f x)) → Leaves m (r >>= f)
left_by m (Ok x) f later = later x
left_by m (Err c) f later = tt

pub left_if : {A : Type 0} (n : ℕ) (b : Bool) (x y : Read A)
    → (b ≡ true → Leaves n x) → (b ≡ false → Leaves n y) → Leaves n (cond b x y)
left_if n true x y p q = p refl
left_if n false x y p q = q refl

pub text_if : (n : ℕ) (b : Bool) (x y : Result (List ℕ) Cause)
    → LeavesText n x → LeavesText n y → LeavesText n (cond b x y)
text_if n true x y p q = p
text_if n false x y p q = q

-- Words.

pub first_left : (text : List ℕ) → length (behind_first text) ≤ length text
first_left [] = omega arith
first_left (c ∷ cs) = omega arith

-- behind a character that is there
pub begun_left : (n c : ℕ) (text : List ℕ) → begins c text ≡ true → length text ≤ suc n
    → length (behind_first text) ≤ n
begun_left n c [] is most = absurd cc
begun_left n c (d ∷ ds) is most = omega (arith, most)

-- behind an equals sign that is there
pub equals_left : (n : ℕ) (text : List ℕ) → has_equals text ≡ true → length text ≤ suc n
    → length (behind_equals text) ≤ n
equals_left n text is most =
    let blanks = blanks_shorter text in
    begun_left n 61 (past_blanks text) is (omega (arith, blanks, most))

-- a run that takes a character
pub run_left : (n : ℕ) (u : Until) (c : ℕ) (cs : List ℕ) → stops u c ≡ false
    → length (c ∷ cs) ≤ suc n
    → length (past u (c ∷ cs)) ≤ n
run_left n u c cs goes most =
    let later = past_shorter u cs in
    let here : length (past u cs) ≤ n = omega (arith, later, most) in
    rw goes here

pub over_left : (n : ℕ) (text : List ℕ) → length text ≤ n → LeavesText n (word_start_at text)
over_left n text most = text_if n (is_over text) (Err MissingArgument) (Ok text) tt most

pub word_start_left : (n : ℕ) (text : List ℕ) → length text ≤ n → LeavesText n (word_start text)
word_start_left n text most =
    let blanks = blanks_shorter text in
    over_left n (past_blanks text) (omega (arith, blanks, most))

pub value_start_left : (n : ℕ) (text : List ℕ) → length text ≤ n → LeavesText n (value_start text)
value_start_left n [] most = tt
value_start_left n (c ∷ cs) most =
    let fewer : length cs ≤ n = omega (arith, most) in
    text_if n (is_blank c) (word_start cs)
    (if nat_eq c 124 then Err MissingArgument else Ok (c ∷ cs)) (word_start_left n cs fewer)
    (text_if n (nat_eq c 124) (Err MissingArgument) (Ok (c ∷ cs)) tt most)

pub past_left : (n : ℕ) (u : Until) (text : List ℕ) → length text ≤ n → length (past u text) ≤ n
past_left n u text most = let shorter = past_shorter u text in omega (arith, shorter, most)

pub argument_left : (n : ℕ) (text : List ℕ) → length text ≤ n → Leaves n (argument text)
argument_left n text most =
    left_from n n (word_start text) (λ start. Ok (run until.Word start, past until.Word start))
    (word_start_left n text most)
    (λ start fewer. past_left n until.Word start fewer)

-- what begins with no blank
abbrev pub StartsBare : List ℕ → Type 0
StartsBare [] = Unit {0}
StartsBare (c ∷ cs) = is_blank c ≡ false

bare_by : (c : ℕ) (cs : List ℕ) (b : Bool) → is_blank c ≡ b → StartsBare (past_blanks cs)
    → StartsBare (cond b (past_blanks cs) (c ∷ cs))
bare_by c cs true is later = later
bare_by c cs false is later = is

pub blanks_bare : (text : List ℕ) → StartsBare (past_blanks text)
blanks_bare [] = tt
blanks_bare (c ∷ cs) = bare_by c cs (is_blank c) refl (blanks_bare cs)

-- Single words of a spelled line, read back.
use Rattle.std.proofs.Common.{◌≡◌, ℕ, Bool, true, false, List, [], ◌∷◌, ◌++◌, length, refl, ap, ◌∙◌}
use Rattle.std.specs.Prelude.{Option, Some, None, Result, Ok, nat_eq, nat_le, not, ◌&&◌, ◌||◌, codes, if◌then◌else◌}
use Rattle.std.specs.List.{list_all}
use Rattle.std.proofs.lemmas.Bool.{ne_eqb}
use Rattle.syntax_set.specs.declared.item.Special.TheVariants as special
use Rattle.text_scan.specs.Characters.{is_blank, past_blanks}
use Rattle.word_reader.specs.declared.words.Until.{Until}
use Rattle.word_reader.specs.declared.words.Until.TheVariants as until
use Rattle.word_reader.specs.Words.{begins, is_over, is_word_in_any_case, past, run, stops}
use Rattle.word_values.specs.GroupNames.{has_name_characters, is_group_name, is_listed, is_name_character, is_none, is_reserved, special_of}
use Rattle.syn_words.specs.declared.cause.Cause.{Cause}
use Rattle.syn_words.specs.Answers.{Read, ◌>>=◌}
use Rattle.syn_words.specs.Arguments.{argument, value_start, word_start, word_start_at}
use Rattle.syn_words.specs.Names.{group_argument, group_name}
use Rattle.syn_words.specs.Spelled.{begins_word, is_one_word}
use Rattle.syn_words.proofs.WordLaws.{and_left, and_right, ends_run, goes_on, not_true, past_word, run_word}

pub or_left : (a b : Bool) → (a || b) ≡ false → a ≡ false
or_left true b none = absurd cc
or_left false b none = refl

pub or_right : (a b : Bool) → (a || b) ≡ false → b ≡ false
or_right true b none = absurd cc
or_right false b none = none

-- What follows a word: nothing, or a blank and more.

abbrev pub behind : Option (List ℕ) → List ℕ
behind None = []
behind (Some more) = 32 ∷ more

pub word_ends : (tail : Option (List ℕ)) → ends_run until.Word (behind tail) ≡ true
word_ends None = refl
word_ends (Some more) = refl

pub key_ends : (tail : Option (List ℕ)) → ends_run until.Key (behind tail) ≡ true
key_ends None = refl
key_ends (Some more) = refl

pub name_ends : (tail : Option (List ℕ)) → ends_run until.ListName (behind tail) ≡ true
name_ends None = refl
name_ends (Some more) = refl

-- Where a word begins.

begins_free : (c : ℕ) (cs : List ℕ) → begins_word (c ∷ cs) ≡ true
    → (is_blank c || nat_eq c 124 || nat_eq c 34) ≡ false
begins_free c cs is = not_true (is_blank c || nat_eq c 124 || nat_eq c 34) is

pub no_blank : (c : ℕ) (cs : List ℕ) → begins_word (c ∷ cs) ≡ true → is_blank c ≡ false
no_blank c cs is =
    or_left (is_blank c) (nat_eq c 124) (or_left (is_blank c || nat_eq c 124) (nat_eq c 34) (begins_free c cs is))

pub no_bar : (c : ℕ) (cs : List ℕ) → begins_word (c ∷ cs) ≡ true → nat_eq c 124 ≡ false
no_bar c cs is =
    or_right (is_blank c) (nat_eq c 124) (or_left (is_blank c || nat_eq c 124) (nat_eq c 34) (begins_free c cs is))

pub no_quote : (c : ℕ) (cs : List ℕ) → begins_word (c ∷ cs) ≡ true → nat_eq c 34 ≡ false
no_quote c cs is = or_right (is_blank c || nat_eq c 124) (nat_eq c 34) (begins_free c cs is)

pub word_begins : (word rest : List ℕ) → begins_word word ≡ true
    → past_blanks (word ++ rest) ≡ word ++ rest
word_begins [] rest is = absurd cc
word_begins (c ∷ cs) rest is = let blank = no_blank c cs is in rw blank refl

pub not_over : (word rest : List ℕ) → begins_word word ≡ true → is_over (word ++ rest) ≡ false
not_over [] rest is = absurd cc
not_over (c ∷ cs) rest is =
    let bar = no_bar c cs is in
    let quote = no_quote c cs is in
    rw (bar, quote) refl

start_at : (text : List ℕ) → is_over text ≡ false → word_start_at text ≡ Ok text
start_at text is = rw is refl

pub start_word : (word rest : List ℕ) → begins_word word ≡ true
    → word_start (32 ∷ word ++ rest) ≡ Ok (word ++ rest)
start_word word rest is = ap word_start_at (word_begins word rest is) ∙ start_at (word ++ rest) (not_over word rest is)

pub value_word : (word rest : List ℕ) → begins_word word ≡ true
    → value_start (word ++ rest) ≡ Ok (word ++ rest)
value_word [] rest is = absurd cc
value_word (c ∷ cs) rest is =
    let blank = no_blank c cs is in
    let bar = no_bar c cs is in
    rw (blank, bar) refl

-- Taking a word.

pub word_goes_on : (word : List ℕ) → is_one_word word ≡ true → goes_on until.Word word ≡ true
word_goes_on word is = and_right (begins_word word) (goes_on until.Word word) is

pub one_word_begins : (word : List ℕ) → is_one_word word ≡ true → begins_word word ≡ true
one_word_begins word is = and_left (begins_word word) (goes_on until.Word word) is

abbrev both : List ℕ → List ℕ → Read (List ℕ)
both word rest = Ok (word, rest)

abbrev taken : Result (List ℕ) Cause → Read (List ℕ)
taken r = r >>= λ start. Ok (run until.Word start, past until.Word start)

taken_word : (word : List ℕ) (tail : Option (List ℕ)) → is_one_word word ≡ true
    → taken (Ok (word ++ behind tail)) ≡ Ok (word, behind tail)
taken_word word tail is =
    let first = run_word until.Word word (behind tail) (word_goes_on word is) (word_ends tail) in
    let left = past_word until.Word word (behind tail) (word_goes_on word is) (word_ends tail) in
    ap (λ w. both w (past until.Word (word ++ behind tail))) first ∙ ap (λ rest. both word rest) left

pub argument_word : (word : List ℕ) (tail : Option (List ℕ)) → is_one_word word ≡ true
    → argument (32 ∷ word ++ behind tail) ≡ Ok (word, behind tail)
argument_word word tail is =
    ap taken (start_word word (behind tail) (one_word_begins word is)) ∙ taken_word word tail is

-- Names.

-- a character that passes a test is none that doesn't
differs : (test : ℕ → Bool) (c d : ℕ) → test c ≡ true → test d ≡ false → nat_eq c d ≡ false
differs test c d holds fails = ne_eqb c d (λ same. apart (ap test same ∙ fails) holds)
  where
    apart : {b : Bool} → b ≡ false → b ≡ true → ⊥
    apart p q = cc

in_word : (c : ℕ) → is_name_character c ≡ true → stops until.Word c ≡ false
in_word c is =
    let space = differs is_name_character c 32 is refl in
    let tab = differs is_name_character c 9 is refl in
    let bar = differs is_name_character c 124 is refl in
    rw (space, tab, bar) refl

in_key : (c : ℕ) → is_name_character c ≡ true → stops until.Key c ≡ false
in_key c is =
    let space = differs is_name_character c 32 is refl in
    let tab = differs is_name_character c 9 is refl in
    let bar = differs is_name_character c 124 is refl in
    let equals = differs is_name_character c 61 is refl in
    rw (space, tab, bar, equals) refl

in_name : (c : ℕ) → is_name_character c ≡ true → stops until.ListName c ≡ false
in_name c is =
    let space = differs is_name_character c 32 is refl in
    let tab = differs is_name_character c 9 is refl in
    let bar = differs is_name_character c 124 is refl in
    let comma = differs is_name_character c 44 is refl in
    rw (space, tab, bar, comma) refl

goes_on_by : (u : Until) (test : ℕ → Bool) (word : List ℕ)
    → ((c : ℕ) → test c ≡ true → stops u c ≡ false) → list_all test word ≡ true
    → goes_on u word ≡ true
goes_on_by u test [] inside all = refl
goes_on_by u test (c ∷ cs) inside all =
    let here = inside c (and_left (test c) (list_all test cs) all) in
    rw here (goes_on_by u test cs inside (and_right (test c) (list_all test cs) all))

listed_name : (name : List ℕ) → is_listed name ≡ true → is_group_name name ≡ true
listed_name name is = and_left (is_group_name name) (not (is_reserved name)) is

pub not_reserved : (name : List ℕ) → is_listed name ≡ true → is_reserved name ≡ false
not_reserved name is = not_true (is_reserved name) (and_right (is_group_name name) (not (is_reserved name)) is)

name_characters : (name : List ℕ) → is_listed name ≡ true → has_name_characters name ≡ true
name_characters name is =
    and_right (nat_le 1 (length name) && nat_le (length name) 200) (has_name_characters name) (listed_name name is)

some_characters : (name : List ℕ) → is_listed name ≡ true → nat_le 1 (length name) ≡ true
some_characters name is =
    and_left (nat_le 1 (length name)) (nat_le (length name) 200)
    (and_left (nat_le 1 (length name) && nat_le (length name) 200) (has_name_characters name) (listed_name name is))

pub name_in_list : (name : List ℕ) → is_listed name ≡ true → goes_on until.ListName name ≡ true
name_in_list name is = goes_on_by until.ListName is_name_character name in_name (name_characters name is)

first_begins : (name : List ℕ) → nat_le 1 (length name) ≡ true → has_name_characters name ≡ true
    → begins_word name ≡ true
first_begins [] some all = absurd cc
first_begins (c ∷ cs) some all =
    let is = and_left (is_name_character c) (has_name_characters cs) all in
    let space = differs is_name_character c 32 is refl in
    let tab = differs is_name_character c 9 is refl in
    let bar = differs is_name_character c 124 is refl in
    let quote = differs is_name_character c 34 is refl in
    rw (space, tab, bar, quote) refl

pub name_begins : (name : List ℕ) → is_listed name ≡ true → begins_word name ≡ true
name_begins name is = first_begins name (some_characters name is) (name_characters name is)

both_hold : (a b : Bool) → a ≡ true → b ≡ true → (a && b) ≡ true
both_hold true true p q = refl
both_hold true false p q = q
both_hold false b p q = absurd cc

pub listed_word : (name : List ℕ) → is_listed name ≡ true → is_one_word name ≡ true
listed_word name is =
    both_hold (begins_word name) (goes_on until.Word name) (name_begins name is)
    (goes_on_by until.Word is_name_character name in_word (name_characters name is))

-- a name begins with no character that names don't have
pub not_at : (d : ℕ) (name rest : List ℕ) → is_name_character d ≡ false → is_listed name ≡ true
    → begins d (name ++ rest) ≡ false
not_at d name rest other is = first_is name (some_characters name is) (name_characters name is)
  where
    first_is : (word : List ℕ) → nat_le 1 (length word) ≡ true → has_name_characters word ≡ true
        → begins d (word ++ rest) ≡ false
    first_is [] some all = absurd cc
    first_is (c ∷ cs) some all = differs is_name_character c d (and_left (is_name_character c) (has_name_characters cs) all) other

pub listed_group : (name : List ℕ) → is_listed name ≡ true → group_name name ≡ Ok name
listed_group name is =
    let named = listed_name name is in
    let free = not_reserved name is in
    rw (named, free) refl

abbrev as_name : Read (List ℕ) → Read (List ℕ)
as_name r = r >>= λ word. group_name word.0 >>= λ name. Ok (name, word.1)

abbrev with_rest : List ℕ → Result (List ℕ) Cause → Read (List ℕ)
with_rest rest r = r >>= λ name. Ok (name, rest)

pub group_argument_word : (name : List ℕ) (tail : Option (List ℕ)) → is_listed name ≡ true
    → group_argument (32 ∷ name ++ behind tail) ≡ Ok (name, behind tail)
group_argument_word name tail is =
    ap as_name (argument_word name tail (listed_word name is)) ∙ ap (with_rest (behind tail)) (listed_group name is)

-- it is no special word
pub not_none : (name : List ℕ) → is_listed name ≡ true → is_none name ≡ false
not_none name is = first_of_six (is_none name) _ _ _ _ _ (not_reserved name is)
  where
    first_of_six : (a b c d e f : Bool) → (a || b || c || d || e || f) ≡ false → a ≡ false
    first_of_six true b c d e f none = absurd cc
    first_of_six false b c d e f none = refl

special_by : (none all allbut top contained contains : Bool)
    → (none || all || allbut || top || contained || contains) ≡ false →
    (if all then special.All else if allbut then special.AllBut else if top then special.Top else if contained then special.Contained else if none then special.Nothing else special.Plain) ≡ special.Plain
special_by true a b c d e h = absurd cc
special_by false true b c d e h = absurd cc
special_by false false true c d e h = absurd cc
special_by false false false true d e h = absurd cc
special_by false false false false true e h = absurd cc
special_by false false false false false e h = refl

pub not_special : (name : List ℕ) → is_listed name ≡ true → special_of name ≡ special.Plain
not_special name is =
    special_by (is_none name) (is_word_in_any_case name (codes "all")) (is_word_in_any_case name (codes "allbut"))
    (is_word_in_any_case name (codes "top")) (is_word_in_any_case name (codes "contained")) (is_word_in_any_case name (codes "contains"))
    (not_reserved name is)

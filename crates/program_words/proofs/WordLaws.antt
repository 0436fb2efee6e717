-- Words and their bytes: what is counted and found in the words is so in their bytes.
use Rattle.std.proofs.Common.{◌≡◌, ℕ, ◌+◌, ◌-◌, ◌≤◌, Bool, true, cond, List, [], ◌∷◌, length, take, drop, map, get_or, ◌<◌, refl, ap, sym, ◌∙◌, arith}
use Rattle.std.specs.Prelude.{Option, Some, None}
use Rattle.std.specs.declared.string.String.{String}
use Rattle.std.specs.String.{string_bytes}
use Rattle.std.proofs.Math.Seq.{take-length}
use Rattle.std.specs.List.{list_all, prefix_len, drop-map, take-map}
use Rattle.std.proofs.lemmas.List.Folds.{list_all-map}
use Rattle.program_words.specs.Words.{behind_options, is_dashes, is_full, is_name, is_option, names_in, options_of, texts_of}

prefix_len-map : {X Y : Type 0} (p : Y → Bool) (h : X → Y) (xs : List X) → prefix_len p (map h xs) ≡ prefix_len (λ x. p (h x)) xs
prefix_len-map p h [] = refl
prefix_len-map p h (x ∷ xs) = ap (λ n. cond (p (h x)) (1 + n) 0) (prefix_len-map p h xs)

-- the options, and the words behind them
pub options_in : {Z : Type 0} (words : List (String Z)) → options_of (texts_of words) ≡ texts_of (take (prefix_len (λ word. is_option (string_bytes word)) words) words)
options_in words =
    ap (λ n. take n (texts_of words)) (prefix_len-map is_option (λ word. string_bytes word) words)
    ∙ take-map (λ word. string_bytes word) (prefix_len (λ word. is_option (string_bytes word)) words) words

pub behind_in : {Z : Type 0} (words : List (String Z)) → behind_options (texts_of words) ≡ texts_of (drop (prefix_len (λ word. is_option (string_bytes word)) words) words)
behind_in words =
    ap (λ n. drop n (texts_of words)) (prefix_len-map is_option (λ word. string_bytes word) words)
    ∙ drop-map (λ word. string_bytes word) (prefix_len (λ word. is_option (string_bytes word)) words) words

-- the names of words of which this one is the first
pub names_with : {Z : Type 0} (words : List (String Z)) (first : String Z) → 1 ≤ length words → first ≡ get_or words 0 first → names_in (texts_of words) ≡ cond (is_dashes (string_bytes first)) (cond (list_all (λ word. is_full (string_bytes word)) (take (length words - 1) (drop 1 words))) (Some (texts_of (take (length words - 1) (drop 1 words)))) None) (cond (list_all (λ word. is_name (string_bytes word)) words) (Some (texts_of words)) None)
names_with [] first some at = absurd (omega (arith, some))
names_with (word ∷ words) first some at =
    let same : first ≡ word = at in
    let count : length (word ∷ words) - 1 ≡ length words = omega arith in
    let rest : take (length (word ∷ words) - 1) words ≡ words = ap (λ n. take n words) count ∙ take-length words in
    rw (same, rest, list_all-map is_full (λ w. string_bytes w) words, list_all-map is_name (λ w. string_bytes w) (word ∷ words)) refl

-- a list of one element
one_of : {X : Type 0} (xs : List X) (x : X) → 1 ≤ length xs → length xs < 2 → x ≡ get_or xs 0 x → xs ≡ x ∷ []
one_of [] x some few at = absurd (omega (arith, some))
one_of (y ∷ []) x some few at = ap (λ z. z ∷ []) (sym at)
one_of (y ∷ z ∷ xs) x some few at = absurd (omega (arith, few))

-- The generated text: its lines are short and plain, so it is read back from its bytes.
use Rattle.std.proofs.Common.{◌≡◌, ℕ, zero, suc, ◌*◌, ◌/◌, ◌<◌, ◌≤◌, Bool, true, List, [], ◌∷◌, ◌++◌, length, get_or, refl, ap, arith}
use Rattle.std.specs.Prelude.{nat_le, encode_utf8_all, Ok}
use Rattle.std.specs.List.{list_all}
use Rattle.std.proofs.lemmas.Bool.Decides.{nat_tests}
use Rattle.std.proofs.lemmas.List.{length-append}
use Rattle.std.proofs.lemmas.Nat.{mod_below}
use Rattle.std.proofs.lemmas.Str.{encodes-IsAscii}
use Rattle.text_buffer.specs.BytesOfText.{bytes_of}
use Rattle.text_buffer.specs.TextOfBytes.{line_break, text_of}
use Rattle.large_session.specs.Draws.{draw, next_number}
use Rattle.large_session.specs.GeneratedText.{drawn_word, further_words, generated_line, generated_lines, words}
use Rattle.large_session.specs.LargeSession.{large_text}
use Rattle.large_session.proofs.PlainLaws.{all_plain, ascii_of, both_of, plain, plain_append, text_back}

-- a test that each of some lines passes, and the empty one
passes_at : (test : List ℕ → Bool) (lines : List (List ℕ)) (k : ℕ) → list_all test lines ≡ true → test [] ≡ true → test (get_or lines k []) ≡ true
passes_at test [] zero are none = none
passes_at test [] (suc k) are none = none
passes_at test (line ∷ lines) zero are none = (both_of (test line) (list_all test lines) are).0
passes_at test (line ∷ lines) (suc k) are none =
    passes_at test lines k (both_of (test line) (list_all test lines) are).1 none

word_plain : (x : ℕ) → plain (drawn_word x).value ≡ true
word_plain x = passes_at plain words (draw 12 x).value refl refl

short_of : (n : ℕ) → nat_le n 7 ≡ true → n ≤ 7
short_of n is = grind (arith, nat_tests)

word_short : (x : ℕ) → length (drawn_word x).value ≤ 7
word_short x =
    short_of (length (drawn_word x).value) (passes_at (λ word. nat_le (length word) 7) words (draw 12 x).value refl refl)

further_plain : (n x : ℕ) → plain (further_words n x).value ≡ true
further_plain zero x = refl
further_plain (suc n) x =
    plain_append (drawn_word x).value (further_words n (drawn_word x).next).value (word_plain x) (further_plain n (drawn_word x).next)

further_short : (n x : ℕ) → length (further_words n x).value ≤ 8 * n
further_short zero x = omega arith
further_short (suc n) x =
    let word = (drawn_word x).value in
    let rest = (further_words n (drawn_word x).next).value in
    let joined = length-append word rest in
    let a = word_short x in
    let b = further_short n (drawn_word x).next in
    omega arith

line_plain : (x : ℕ) → plain (generated_line x).value ≡ true
line_plain x =
    let count = draw 6 x in
    plain_append (drawn_word count.next).value (further_words count.value (drawn_word count.next).next).value (word_plain count.next) (further_plain count.value (drawn_word count.next).next)

line_short : (x : ℕ) → length (generated_line x).value ≤ 47
line_short x =
    let count = draw 6 x in
    let first = (drawn_word count.next).value in
    let rest = (further_words count.value (drawn_word count.next).next).value in
    let joined = length-append first rest in
    let a = word_short count.next in
    let b = further_short count.value (drawn_word count.next).next in
    let few : count.value < 6 = mod_below (next_number x / 4096) 6 (omega arith) in
    omega arith

lines_plain : (n x : ℕ) → all_plain (generated_lines n x).value
lines_plain zero x = tt
lines_plain (suc n) x =
    let short = line_short x in
    (line_plain x, omega arith, lines_plain n (generated_line x).next)

lines_count : (n x : ℕ) → length (generated_lines n x).value ≡ n
lines_count zero x = refl
lines_count (suc n) x = ap suc (lines_count n (generated_line x).next)

bytes_few : (n x : ℕ) → length (bytes_of (generated_lines n x).value) ≤ 48 * n
bytes_few zero x = omega arith
bytes_few (suc n) x =
    let line = (generated_line x).value in
    let rest = bytes_of (generated_lines n (generated_line x).next).value in
    let same : length (encode_utf8_all line ++ line_break ∷ rest) ≡ length (line ++ line_break ∷ rest) =
    ap (λ (l : List ℕ). length (l ++ line_break ∷ rest)) (encodes-IsAscii line (ascii_of line (line_plain x))) in
    let joined = length-append line (line_break ∷ rest) in
    let a = line_short x in
    let b = bytes_few n (generated_line x).next in
    omega arith

-- ---- the text of a seed

-- it has as many lines as were wanted
pub text_count : (seed lines : ℕ) → length (large_text seed lines) ≡ lines
text_count seed lines = lines_count lines seed

-- its bytes are few enough for a file
pub text_bytes_few : (seed lines : ℕ) → lines ≤ 100000 → length (bytes_of (large_text seed lines)) ≤ 67108864
text_bytes_few seed lines few = let bound = bytes_few lines seed in omega arith

-- and it is the text of its bytes
pub text_read_back : (seed lines : ℕ) → 1 ≤ lines → lines ≤ 100000 → text_of (bytes_of (large_text seed lines)) ≡ Ok (large_text seed lines)
text_read_back seed zero some few = absurd (omega arith)
text_read_back seed (suc lines) some few =
    let count = lines_count (suc lines) seed in
    text_back (generated_line seed).value (generated_lines lines (generated_line seed).next).value (lines_plain (suc lines) seed) (omega arith)

-- Lines of ASCII without a line break: they are their own bytes, and a text of them is read back from its
-- bytes.
use Rattle.std.proofs.Common.{◌≡◌, ℕ, zero, suc, ◌+◌, ◌<◌, ◌≤◌, Bool, true, false, not, ◌&&◌, ◌==◌, List, [], ◌∷◌, ◌++◌, length, map, refl, ap, subst, sym, ◌∙◌, arith}
use Rattle.std.specs.Prelude.{nat_lt, IsAscii, chars, slice_index, Option, None, Ok, if◌then◌else◌}
use Rattle.std.specs.List.{list_all}
use Rattle.std.proofs.lemmas.Bool.Decides.{nat_tests}
use Rattle.std.proofs.lemmas.List.Folds.{list_all-append}
use Rattle.std.proofs.lemmas.Str.{IsUtf8-from_ascii, chars-IsAscii, encodes-IsAscii}
use Rattle.text_buffer.specs.BytesOfText.{bytes_of}
use Rattle.text_buffer.specs.TextOfBytes.{byte_lines, first_fault, first_of, line_break, line_fault, lines_of_pieces, longer_first, most_lines, pieces_of, text_of, unless, without_empty_last}
use Rattle.text_buffer.specs.declared.TextError.{TextError}
use Rattle.text_buffer.proofs.LineLaws.{good_line}

abbrev pub is_plain : ℕ → Bool
is_plain c = nat_lt c 128 && not (c == 10)

abbrev pub plain : List ℕ → Bool
plain line = list_all is_plain line

pub both_of : (a b : Bool) → (a && b) ≡ true → (a ≡ true) × (b ≡ true)
both_of true b is = (refl, is)
both_of false b is = absurd cc

pub plain_append : (a b : List ℕ) → plain a ≡ true → plain b ≡ true → plain (a ++ b) ≡ true
plain_append a b first second =
    list_all-append is_plain a b ∙ ap (λ t. t && plain b) first ∙ second

small_of : (c : ℕ) → is_plain c ≡ true → c < 128
small_of c is = let test = (both_of (nat_lt c 128) (not (c == 10)) is).0 in grind (arith, nat_tests)

unbroken_of : (c : ℕ) → is_plain c ≡ true → (c == 10) ≡ false
unbroken_of c is = by_test (c == 10) (both_of (nat_lt c 128) (not (c == 10)) is).1
  where
    by_test : (test : Bool) → not test ≡ true → test ≡ false
    by_test true at = absurd cc
    by_test false at = refl

ascii_at : (line : List ℕ) (i : ℕ) → plain line ≡ true → slice_index line i < 128
ascii_at [] zero is = omega arith
ascii_at [] (suc i) is = omega arith
ascii_at (c ∷ line) zero is = small_of c (both_of (is_plain c) (plain line) is).0
ascii_at (c ∷ line) (suc i) is = ascii_at line i (both_of (is_plain c) (plain line) is).1

pub ascii_of : (line : List ℕ) → plain line ≡ true → IsAscii line
ascii_of line is = λ i. ascii_at line i is

-- ---- texts of such lines

-- each line is plain and short enough
abbrev pub all_plain : List (List ℕ) → Type 0
all_plain [] = Unit {0}
all_plain (line ∷ lines) = (plain line ≡ true) × (length line ≤ 1000000) × all_plain lines

broken_off : (line rest : List ℕ) → plain line ≡ true → pieces_of (line ++ line_break ∷ rest) ≡ line ∷ pieces_of rest
broken_off [] rest is = refl
broken_off (c ∷ line) rest is =
    let parts = both_of (is_plain c) (plain line) is in
    ap (λ (t : Bool). if t then [] ∷ pieces_of (line ++ line_break ∷ rest) else longer_first c (pieces_of (line ++ line_break ∷ rest))) (unbroken_of c parts.0)
    ∙ ap (longer_first c) (broken_off line rest parts.1)

pieces_back : (lines : List (List ℕ)) → all_plain lines → pieces_of (bytes_of lines) ≡ lines ++ [] ∷ []
pieces_back [] are = refl
pieces_back (line ∷ lines) are =
    ap (λ (l : List ℕ). pieces_of (l ++ line_break ∷ bytes_of lines)) (encodes-IsAscii line (ascii_of line are.0))
    ∙ broken_off line (bytes_of lines) are.0
    ∙ ap (λ (l : List (List ℕ)). line ∷ l) (pieces_back lines are.2)

without_last : (lines : List (List ℕ)) → without_empty_last (lines ++ [] ∷ []) ≡ lines
without_last [] = refl
without_last ([] ∷ []) = refl
without_last ((c ∷ line) ∷ []) = refl
without_last ([] ∷ next ∷ lines) = ap (λ (l : List (List ℕ)). [] ∷ l) (without_last (next ∷ lines))
without_last ((c ∷ line) ∷ next ∷ lines) = ap (λ (l : List (List ℕ)). (c ∷ line) ∷ l) (without_last (next ∷ lines))

lines_back : (line : List ℕ) (lines : List (List ℕ)) → all_plain (line ∷ lines) → byte_lines (bytes_of (line ∷ lines)) ≡ line ∷ lines
lines_back line lines are =
    ap lines_of_pieces (pieces_back (line ∷ lines) are) ∙ ap (λ (l : List (List ℕ)). line ∷ l) (without_last lines)

plain_fault : (number : ℕ) (line : List ℕ) → plain line ≡ true → length line ≤ 1000000 → number < most_lines → line_fault number line ≡ None
plain_fault number line is short few =
    let same = chars-IsAscii line (ascii_of line is) in
    good_line number line (IsUtf8-from_ascii line (ascii_of line is)) (subst (λ (l : List ℕ). length l ≤ 1000000) (sym same) short) few

faultless : (number : ℕ) (lines : List (List ℕ)) → all_plain lines → number + length lines ≤ 2000000 → first_fault number lines ≡ None
faultless number [] are few = refl
faultless number (line ∷ lines) are few =
    ap (λ (f : Option TextError). first_of f (first_fault (suc number) lines)) (plain_fault number line are.0 are.1 (omega arith))
    ∙ faultless (suc number) lines are.2 (omega arith)

chars_back : (lines : List (List ℕ)) → all_plain lines → map chars lines ≡ lines
chars_back [] are = refl
chars_back (line ∷ lines) are =
    ap (λ (l : List ℕ). l ∷ map chars lines) (chars-IsAscii line (ascii_of line are.0))
    ∙ ap (λ (l : List (List ℕ)). line ∷ l) (chars_back lines are.2)

pub text_back : (line : List ℕ) (lines : List (List ℕ)) → all_plain (line ∷ lines) → length (line ∷ lines) ≤ 2000000 → text_of (bytes_of (line ∷ lines)) ≡ Ok (line ∷ lines)
text_back line lines are few =
    ap (λ (l : List (List ℕ)). unless (first_fault 0 l) (map chars l)) (lines_back line lines are)
    ∙ ap (λ (f : Option TextError). unless f (map chars (line ∷ lines))) (faultless 0 (line ∷ lines) are (omega arith))
    ∙ ap Ok (chars_back (line ∷ lines) are)

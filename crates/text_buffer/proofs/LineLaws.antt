-- Laws of pieces and lines: a piece up to its line break, and the text that a further line makes.
use Rattle.std.proofs.Common.{◌≡◌, ℕ, zero, suc, ◌+◌, ◌-◌, ◌≤◌, ◌<◌, List, [], ◌∷◌, ◌++◌, take, drop, length, map, refl, ap, sym, ◌∙◌, arith, length-drop, Bool, true, false}
use Rattle.std.specs.Prelude.{slice_range, Some, None, Result, Ok, Err, ◌==◌, if◌then◌else◌}
use Rattle.std.specs.Str.{chars, is_utf8, IsUtf8}
use Rattle.std.proofs.lemmas.Str.{IsUtf8-from_is_utf8, is_utf8-from_IsUtf8}
use Rattle.text_buffer.specs.declared.LineFault.TheVariants.{NotUtf8, TooLong}
use Rattle.std.proofs.lemmas.List.{append_assoc, drop-drop, drop_all}
use Rattle.std.proofs.lemmas.Grind.{common_steps}
use Rattle.std.proofs.lemmas.Bool.{false_from_ne_true, lt-ltb, le-ltb}
use Rattle.memchr.specs.Find.{NoneBefore, Nowhere, Passes, is_byte}
use Rattle.text_buffer.specs.TextOfBytes.{line_break, most_chars, most_lines}
use Rattle.text_buffer.specs.declared.TextError.{TextError}
use Rattle.text_buffer.specs.TextOfBytes.{pieces_of, longer_first, without_empty_last, lines_of_pieces, byte_lines, line_fault, line_of}
use Rattle.text_buffer.specs.Reading.{lines_after, lines_behind_break, read_on}

-- no line break before place j
abbrev pub IsUnbroken : List ℕ → ℕ → Type 0
IsUnbroken bytes j = Nowhere (Passes (is_byte line_break) bytes) 0 j

-- behind the first byte, which is no line break, there is none either
unbroken_rest : (byte : ℕ) (bytes : List ℕ) (j : ℕ) → IsUnbroken (byte ∷ bytes) (suc j) → IsUnbroken bytes j
unbroken_rest byte bytes j none k low below = none (suc k) (omega arith) (omega arith)

-- without a line break there is one piece
pub pieces_whole : (bytes : List ℕ) → IsUnbroken bytes (length bytes) → pieces_of bytes ≡ bytes ∷ []
pieces_whole [] none = refl
pieces_whole (byte ∷ bytes) none =
    let first : (byte == line_break) ≡ false = false_from_ne_true (byte == line_break) (none 0 (omega arith) (omega arith)) in
    let rest : pieces_of bytes ≡ bytes ∷ [] = pieces_whole bytes (unbroken_rest byte bytes (length bytes) (grind (arith, none))) in
    rw (first, rest) refl

-- the first piece ends at the first line break
pub pieces_broken : (bytes : List ℕ) (k : ℕ) → k < length bytes → Passes (is_byte line_break) bytes k → IsUnbroken bytes k → pieces_of bytes ≡ take k bytes ∷ pieces_of (drop (suc k) bytes)
pieces_broken [] k within at_break none = absurd (omega arith)
pieces_broken (byte ∷ bytes) zero within at_break none = rw at_break refl
pieces_broken (byte ∷ bytes) (suc k) within at_break none =
    let first : (byte == line_break) ≡ false = false_from_ne_true (byte == line_break) (none 0 (omega arith) (omega arith)) in
    let rest : pieces_of bytes ≡ take k bytes ∷ pieces_of (drop (suc k) bytes) = pieces_broken bytes k (omega arith) at_break (unbroken_rest byte bytes k none) in
    rw (first, rest) refl

-- there is a first piece
pieces_some : (bytes : List ℕ) → (first : List ℕ) × (rest : List (List ℕ)) × (pieces_of bytes ≡ first ∷ rest)
pieces_some [] = ([], [], refl)
pieces_some (byte ∷ bytes) = put (byte == line_break) byte (pieces_of bytes)
  where
    put : (breaks : Bool) (byte : ℕ) (pieces : List (List ℕ)) → (first : List ℕ) × (rest : List (List ℕ)) × ((if breaks then [] ∷ pieces else longer_first byte pieces) ≡ first ∷ rest)
    put true byte pieces = ([], pieces, refl)
    put false byte [] = (byte ∷ [], [], refl)
    put false byte (piece ∷ pieces) = (byte ∷ piece, pieces, refl)

-- where something stands behind a line break, its pieces are lines as those of the whole bytes are
behind : (breaks : Bool) (byte : ℕ) (first : List ℕ) (rest : List (List ℕ)) → without_empty_last (if breaks then [] ∷ first ∷ rest else longer_first byte (first ∷ rest)) ≡ lines_of_pieces (if breaks then [] ∷ first ∷ rest else longer_first byte (first ∷ rest))
behind true byte first rest = refl
behind false byte first [] = refl
behind false byte first (next ∷ rest) = refl

-- the lines behind a line break
lines_behind : (bytes : List ℕ) → without_empty_last (pieces_of bytes) ≡ lines_behind_break bytes
lines_behind [] = refl
lines_behind (byte ∷ bytes) =
    let some = pieces_some bytes in
    rw some.2 (behind (byte == line_break) byte some.0 some.1)

-- the lines of bytes whose first line break is at k
lines_broken : (bytes : List ℕ) (k : ℕ) → k < length bytes → Passes (is_byte line_break) bytes k → IsUnbroken bytes k → byte_lines bytes ≡ take k bytes ∷ lines_behind_break (drop (suc k) bytes)
lines_broken bytes k within at_break none =
    rw (pieces_broken bytes k within at_break none, lines_behind (drop (suc k) bytes)) refl

-- the part of a text's bytes from `at` on, as code slices it
rest_of : (bytes : List ℕ) (at : ℕ) → take (length bytes - at) (drop at bytes) ≡ drop at bytes
rest_of bytes at = grind (arith, common_steps)

-- the lines from `at` on, where the first line break is `count` places further
pub lines_to_break : (bytes : List ℕ) (at count : ℕ) → at ≤ length bytes → (let rest = take (length bytes - at) (drop at bytes) in (NoneBefore (Passes (is_byte line_break) rest) 0 (length rest) count) × Passes (is_byte line_break) rest count) → byte_lines (drop at bytes) ≡ slice_range bytes at (at + count) ∷ lines_after bytes (at + count + 1)
lines_to_break bytes at count within found =
    let rest : take (length bytes - at) (drop at bytes) ≡ drop at bytes = rest_of bytes at in
    let found' : (NoneBefore (Passes (is_byte line_break) (drop at bytes)) 0 (length (drop at bytes)) count) × Passes (is_byte line_break) (drop at bytes) count = rw rest at found in
    let next : drop (at + count + 1) bytes ≡ drop (suc count) (drop at bytes) = ap (λ n. drop n bytes) (omega arith) ∙ sym (drop-drop (suc count) at bytes) in
    let part : at + count - at ≡ count = omega arith in
    rw (next, part) (lines_broken (drop at bytes) count (found'.0).high found'.1 (found'.0).before)

-- the lines from `at` on, where no line break comes
pub lines_to_end : (bytes : List ℕ) (at : ℕ) → at ≤ length bytes → (let rest = take (length bytes - at) (drop at bytes) in Nowhere (Passes (is_byte line_break) rest) 0 (length rest)) → byte_lines (drop at bytes) ≡ slice_range bytes at (length bytes) ∷ lines_after bytes (length bytes + 1)
lines_to_end bytes at within none =
    let rest : take (length bytes - at) (drop at bytes) ≡ drop at bytes = rest_of bytes at in
    let none' : IsUnbroken (drop at bytes) (length (drop at bytes)) = rw rest at none in
    let past : drop (length bytes + 1) bytes ≡ [] = drop_all (length bytes + 1) bytes (omega arith) in
    rw (past, rest, pieces_whole (drop at bytes) none') refl

-- bytes that aren't UTF-8 are no line
pub not_utf8 : (bytes : List ℕ) → ¬ IsUtf8 bytes → line_of bytes ≡ Err NotUtf8
not_utf8 bytes bad =
    let test : is_utf8 bytes ≡ false = false_from_ne_true (is_utf8 bytes) (λ good. bad (IsUtf8-from_is_utf8 bytes good)) in
    rw test refl

-- nor are too many characters
pub too_long : (bytes : List ℕ) → IsUtf8 bytes → most_chars < length (chars bytes) → line_of bytes ≡ Err TooLong
too_long bytes good long =
    rw (is_utf8-from_IsUtf8 bytes good, lt-ltb most_chars (length (chars bytes)) long) refl

-- other bytes are one
pub well_formed : (bytes : List ℕ) → IsUtf8 bytes → length (chars bytes) ≤ most_chars → line_of bytes ≡ Ok (chars bytes)
well_formed bytes good short =
    rw (is_utf8-from_IsUtf8 bytes good, le-ltb most_chars (length (chars bytes)) short) refl

-- a line without a fault
pub good_line : (number : ℕ) (bytes : List ℕ) → IsUtf8 bytes → length (chars bytes) ≤ most_chars → number < most_lines → line_fault number bytes ≡ None
good_line number bytes good short few =
    rw (well_formed bytes good short, lt-ltb number most_lines few) refl

-- a line without a fault joins those that were read
pub read_further : (lines : List (List ℕ)) (line : List ℕ) (coming : List (List ℕ)) → line_fault (length lines) line ≡ None → read_on lines (line ∷ coming) ≡ read_on (lines ++ chars line ∷ []) coming
read_further lines line coming good =
    let count : length (lines ++ chars line ∷ []) ≡ suc (length lines) = grind (arith, common_steps) in
    rw (good, count, append_assoc lines (chars line ∷ []) (map chars coming)) refl

-- the fault of the next line is the text's
pub read_fault : (lines : List (List ℕ)) (line : List ℕ) (coming : List (List ℕ)) (fault : TextError) → line_fault (length lines) line ≡ Some fault → read_on lines (line ∷ coming) ≡ Err fault
read_fault lines line coming fault bad = rw bad refl

-- where something stands from `at` on, its lines are those from `at` on
pub lines_after_some : (bytes : List ℕ) (at : ℕ) → at < length bytes → lines_after bytes at ≡ byte_lines (drop at bytes)
lines_after_some bytes at within = some (drop at bytes) (omega (arith, length-drop at bytes))
  where
    some : (rest : List ℕ) → 0 < length rest → lines_behind_break rest ≡ byte_lines rest
    some [] none = absurd (omega arith)
    some (byte ∷ rest) more = refl

-- the text so far, before a further line
pub text_before : (bytes : List ℕ) (lines : List (List ℕ)) (at : ℕ) (text : Result (List (List ℕ)) TextError) → at < length bytes → text ≡ read_on lines (lines_after bytes at) → text ≡ read_on lines (byte_lines (drop at bytes))
text_before bytes lines at text within so_far = so_far ∙ ap (λ coming. read_on lines coming) (lines_after_some bytes at within)

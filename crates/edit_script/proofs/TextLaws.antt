-- Laws of a text's lines: what a line says of itself, and one line more.
use Rattle.std.proofs.Common.{◌≡◌, ℕ, ◌<◌, List, [], ◌∷◌, ◌++◌, length, map, refl, ap, sym, ◌∙◌, Bool, true, false}
use Rattle.std.specs.Prelude.{not, ◌&&◌, ◌||◌, Result, Ok, Err, if◌then◌else◌}
use Rattle.std.specs.Str.{chars, is_utf8, IsUtf8}
use Rattle.std.proofs.lemmas.List.{map-append}
use Rattle.std.proofs.Math.Bool.{or-true}
use Rattle.text_buffer.specs.TextOfBytes.{most_chars}
use Rattle.text_buffer.specs.declared.LineFault.TheVariants.{NotUtf8, TooLong}
use Rattle.text_buffer.proofs.LineLaws.{too_long}
use Rattle.edit_script.specs.declared.commands.ScriptFault.{ScriptFault}
use Rattle.edit_script.specs.declared.commands.ScriptFault.TheVariants.{BadCommand, BadAddress, UnfinishedText, BadUtf8, LongLine}
use Rattle.edit_script.specs.declared.draft.Draft.{Draft}
use Rattle.edit_script.specs.CommandLine.{in_script, is_long, line_chars}
use Rattle.edit_script.specs.Entries.{has_bad_line, has_long_line}
use Rattle.edit_script.specs.Reading.{IsTextOf, with_fault}

-- ---- a line

pub long_line : (bytes : List ℕ) → IsUtf8 bytes → most_chars < length (chars bytes) → line_chars bytes ≡ Err LongLine
long_line bytes good long = ap in_script (too_long bytes good long)

abbrev told : Bool → Bool → List ℕ → Result (List ℕ) ScriptFault
told good long text = in_script (if not good then Err NotUtf8 else if long then Err TooLong else Ok text)

good_tells : (good long : Bool) (text line : List ℕ) → told good long text ≡ Ok line → (good ≡ true) × (long ≡ false) × (text ≡ line)
good_tells false long text line is = absurd (cc)
good_tells true true text line is = absurd (cc)
good_tells true false text line is = (refl, refl, cc)

bad_tells : (good long : Bool) (text : List ℕ) → told good long text ≡ Err BadUtf8 → good ≡ false
bad_tells false long text is = refl
bad_tells true true text is = absurd (cc)
bad_tells true false text is = absurd (cc)

long_tells : (good long : Bool) (text : List ℕ) (fault : ScriptFault) → told good long text ≡ Err fault → (fault ≡ BadUtf8 → ⊥) → (good ≡ true) × (long ≡ true)
long_tells false long text fault is other =
    let same : BadUtf8 ≡ fault = cc in
    absurd (other (sym same))
long_tells true true text fault is other = (refl, refl)
long_tells true false text fault is other = absurd (cc)

-- ---- one line more

or_of : (first rest last : Bool) → ((first || rest) || last) ≡ (first || (rest || last))
or_of true rest last = refl
or_of false rest last = refl

or_false : (b : Bool) → (b || false) ≡ b
or_false true = refl
or_false false = refl

bad_more : (text : List (List ℕ)) (line : List ℕ) → has_bad_line (text ++ line ∷ []) ≡ (has_bad_line text || not (is_utf8 line))
bad_more [] line = or_false (not (is_utf8 line))
bad_more (first ∷ text) line =
    ap (λ b. not (is_utf8 first) || b) (bad_more text line)
    ∙ sym (or_of (not (is_utf8 first)) (has_bad_line text) (not (is_utf8 line)))

long_more : (text : List (List ℕ)) (line : List ℕ) → has_long_line (text ++ line ∷ []) ≡ (has_long_line text || (is_utf8 line && is_long line))
long_more [] line = or_false (is_utf8 line && is_long line)
long_more (first ∷ text) line =
    ap (λ b. (is_utf8 first && is_long first) || b) (long_more text line)
    ∙ sym (or_of (is_utf8 first && is_long first) (has_long_line text) (is_utf8 line && is_long line))

true_false : true ≡ false → ⊥
true_false is = absurd (cc)

pub with_good_line : (draft : Draft) (text : List (List ℕ)) (line read : List ℕ) (lines : List (List ℕ)) → line_chars line ≡ Ok read → lines ≡ draft.lines ++ read ∷ [] → IsTextOf draft text → IsTextOf (record draft { lines = lines }) (text ++ line ∷ [])
with_good_line draft text line read lines is is_lines is_text =
    let t = good_tells (is_utf8 line) (is_long line) (chars line) read is in
    let bad : has_bad_line (text ++ line ∷ []) ≡ has_bad_line text = bad_more text line ∙ ap (λ b. has_bad_line text || not b) t.0 ∙ or_false (has_bad_line text) in
    let long : has_long_line (text ++ line ∷ []) ≡ has_long_line text = long_more text line ∙ ap (λ b. has_long_line text || (b && is_long line)) t.0 ∙ ap (λ b. has_long_line text || b) t.1 ∙ or_false (has_long_line text) in
    record {
      bad = is_text.bad ∙ sym bad;
      long = is_text.long ∙ sym long;
      read = λ none_bad none_long.
          is_lines
          ∙ ap (λ ls. ls ++ read ∷ []) (is_text.read (sym bad ∙ none_bad) (sym long ∙ none_long))
          ∙ ap (λ l. map chars text ++ l ∷ []) (sym t.2)
          ∙ sym (map-append chars text (line ∷ []));
    }

with_bad_line : (draft : Draft) (text : List (List ℕ)) (line : List ℕ) → line_chars line ≡ Err BadUtf8 → IsTextOf draft text → IsTextOf (record draft { has_bad_line = true }) (text ++ line ∷ [])
with_bad_line draft text line is is_text =
    let good : is_utf8 line ≡ false = bad_tells (is_utf8 line) (is_long line) (chars line) is in
    let bad : has_bad_line (text ++ line ∷ []) ≡ true = bad_more text line ∙ ap (λ b. has_bad_line text || not b) good ∙ or-true (has_bad_line text) in
    let long : has_long_line (text ++ line ∷ []) ≡ has_long_line text = long_more text line ∙ ap (λ b. has_long_line text || (b && is_long line)) good ∙ or_false (has_long_line text) in
    record {
      bad = sym bad;
      long = is_text.long ∙ sym long;
      read = λ none_bad none_long. absurd (true_false (sym bad ∙ none_bad));
    }

with_long_line : (draft : Draft) (text : List (List ℕ)) (line : List ℕ) (fault : ScriptFault) → line_chars line ≡ Err fault → (fault ≡ BadUtf8 → ⊥) → IsTextOf draft text → IsTextOf (record draft { has_long_line = true }) (text ++ line ∷ [])
with_long_line draft text line fault is other is_text =
    let t = long_tells (is_utf8 line) (is_long line) (chars line) fault is other in
    let bad : has_bad_line (text ++ line ∷ []) ≡ has_bad_line text = bad_more text line ∙ ap (λ b. has_bad_line text || not b) t.0 ∙ or_false (has_bad_line text) in
    let long : has_long_line (text ++ line ∷ []) ≡ true = long_more text line ∙ ap (λ b. has_long_line text || (b && is_long line)) t.0 ∙ ap (λ b. has_long_line text || b) t.1 ∙ or-true (has_long_line text) in
    record {
      bad = is_text.bad ∙ sym bad;
      long = sym long;
      read = λ none_bad none_long. absurd (true_false (sym long ∙ none_long));
    }

pub with_faulty_line : (draft : Draft) (text : List (List ℕ)) (line : List ℕ) (fault : ScriptFault) → line_chars line ≡ Err fault → IsTextOf draft text → IsTextOf (with_fault draft fault) (text ++ line ∷ [])
with_faulty_line draft text line BadUtf8 is is_text = with_bad_line draft text line is is_text
with_faulty_line draft text line BadCommand is is_text = with_long_line draft text line BadCommand is (λ same. absurd (cc)) is_text
with_faulty_line draft text line BadAddress is is_text = with_long_line draft text line BadAddress is (λ same. absurd (cc)) is_text
with_faulty_line draft text line UnfinishedText is is_text = with_long_line draft text line UnfinishedText is (λ same. absurd (cc)) is_text
with_faulty_line draft text line LongLine is is_text = with_long_line draft text line LongLine is (λ same. absurd (cc)) is_text

-- The first of the words, lines or edits to come is done: the others follow.
use Rattle.std.proofs.Common.{◌≡◌, ℕ, suc, ◌+◌, ◌-◌, ◌<◌, ◌≤◌, List, [], ◌∷◌, ◌++◌, length, ap, sym, ◌∙◌, append_assoc, arith}
use Rattle.std.specs.Prelude.{codes, encode_utf8_all}
use Rattle.text_buffer.specs.BytesOfText.{bytes_of}
use Rattle.text_buffer.specs.TextOfBytes.{line_break}
use Rattle.edit_session.specs.Painter.{Painter}
use Rattle.large_session.specs.GeneratedText.{drawn_word, further_words, generated_line, generated_lines}
use Rattle.large_session.specs.DrawnEdits.{drawn_edit}
use Rattle.large_session.specs.LargeSession.{Standing, edited, edited_often, lines_of_edits}

one_fewer : (count i : ℕ) → i < count → count - i ≡ suc (count - (i + 1))
one_fewer count i within = omega arith

-- ---- words

pub words_on : (line more whole : List ℕ) (count i x y : ℕ) → i < count → line ++ (further_words (count - i) x).value ≡ whole → more ≡ (line ++ codes " ") ++ (drawn_word x).value → y ≡ (drawn_word x).next → more ++ (further_words (count - (i + 1)) y).value ≡ whole
words_on line more whole count i x y within so_far pushed drawn =
    let fewer = count - (i + 1) in
    let word = (drawn_word x).value in
    let rest = (further_words fewer (drawn_word x).next).value in
    ap (λ (l : List ℕ). l ++ (further_words fewer y).value) pushed
    ∙ ap (λ z. ((line ++ codes " ") ++ word) ++ (further_words fewer z).value) drawn
    ∙ append_assoc (line ++ codes " ") word rest
    ∙ append_assoc line (codes " ") (word ++ rest)
    ∙ ap (λ n. line ++ (further_words n x).value) (sym (one_fewer count i within))
    ∙ so_far

pub words_behind : (count i x y last : ℕ) → i < count → (further_words (count - i) x).next ≡ last → y ≡ (drawn_word x).next → (further_words (count - (i + 1)) y).next ≡ last
words_behind count i x y last within so_far drawn =
    ap (λ z. (further_words (count - (i + 1)) z).next) drawn
    ∙ ap (λ n. (further_words n x).next) (sym (one_fewer count i within))
    ∙ so_far

-- ---- lines

pub lines_on : (out more whole : List ℕ) (count i x y : ℕ) → i < count → out ++ bytes_of (generated_lines (count - i) x).value ≡ whole → more ≡ out ++ bytes_of ((generated_line x).value ∷ []) → y ≡ (generated_line x).next → more ++ bytes_of (generated_lines (count - (i + 1)) y).value ≡ whole
lines_on out more whole count i x y within so_far pushed drawn =
    let fewer = count - (i + 1) in
    let line = (generated_line x).value in
    let rest = bytes_of (generated_lines fewer (generated_line x).next).value in
    ap (λ (l : List ℕ). l ++ bytes_of (generated_lines fewer y).value) pushed
    ∙ ap (λ z. (out ++ bytes_of (line ∷ [])) ++ bytes_of (generated_lines fewer z).value) drawn
    ∙ append_assoc out (bytes_of (line ∷ [])) rest
    ∙ ap (λ (l : List ℕ). out ++ l) (append_assoc (encode_utf8_all line) (line_break ∷ []) rest)
    ∙ ap (λ n. out ++ bytes_of (generated_lines n x).value) (sym (one_fewer count i within))
    ∙ so_far

pub lines_behind : (count i x y last : ℕ) → i < count → (generated_lines (count - i) x).next ≡ last → y ≡ (generated_line x).next → (generated_lines (count - (i + 1)) y).next ≡ last
lines_behind count i x y last within so_far drawn =
    ap (λ z. (generated_lines (count - (i + 1)) z).next) drawn
    ∙ ap (λ n. (generated_lines n x).next) (sym (one_fewer count i within))
    ∙ so_far

-- ---- edits

pub edits_on : (p : Painter) (s t whole : Standing) (count i x y : ℕ) → i < count → edited_often p (count - i) s x ≡ whole → t ≡ edited p s (drawn_edit (length s.painted.text) x).value → y ≡ (drawn_edit (length s.painted.text) x).next → edited_often p (count - (i + 1)) t y ≡ whole
edits_on p s t whole count i x y within so_far stands drawn =
    let edit = drawn_edit (length s.painted.text) x in
    ap (λ (u : Standing). edited_often p (count - (i + 1)) u y) stands
    ∙ ap (λ z. edited_often p (count - (i + 1)) (edited p s edit.value) z) drawn
    ∙ ap (λ n. edited_often p n s x) (sym (one_fewer count i within))
    ∙ so_far

lines_split : (p : Painter) (s : Standing) (count i x : ℕ) → i < count → lines_of_edits p (count - i) s x ≡ p.costs s.painted.text (drawn_edit (length s.painted.text) x).value + lines_of_edits p (count - (i + 1)) (edited p s (drawn_edit (length s.painted.text) x).value) (drawn_edit (length s.painted.text) x).next
lines_split p s count i x within = ap (λ n. lines_of_edits p n s x) (one_fewer count i within)

pub painted_on : (p : Painter) (s t : Standing) (count i x y steps more most : ℕ) → i < count → steps + lines_of_edits p (count - i) s x ≤ most → more ≤ steps + p.costs s.painted.text (drawn_edit (length s.painted.text) x).value → t ≡ edited p s (drawn_edit (length s.painted.text) x).value → y ≡ (drawn_edit (length s.painted.text) x).next → more + lines_of_edits p (count - (i + 1)) t y ≤ most
painted_on p s t count i x y steps more most within so_far painted stands drawn =
    let edit = drawn_edit (length s.painted.text) x in
    let split = lines_split p s count i x within in
    let same : lines_of_edits p (count - (i + 1)) t y ≡ lines_of_edits p (count - (i + 1)) (edited p s edit.value) edit.next =
    ap (λ (u : Standing). lines_of_edits p (count - (i + 1)) u y) stands
    ∙ ap (λ z. lines_of_edits p (count - (i + 1)) (edited p s edit.value) z) drawn in
    omega arith

pub painted_last : (p : Painter) (s : Standing) (count i x steps more most : ℕ) → i < count → steps + lines_of_edits p (count - i) s x ≤ most → more ≤ steps + p.costs s.painted.text (drawn_edit (length s.painted.text) x).value → more ≤ most
painted_last p s count i x steps more most within so_far painted =
    let split = lines_split p s count i x within in omega arith

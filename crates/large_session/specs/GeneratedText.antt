-- The text of the large mode: lines of words that are drawn.
use Rattle.std.specs.Prelude.{ℕ, suc, zero, List, [], ◌∷◌, ◌++◌, codes, get_or}
use Rattle.large_session.specs.Draws.{Drawn, draw}

-- the words, counted from 0
abbrev pub words : List (List ℕ)
words =
    codes "int" ∷ codes "if" ∷ codes "name" ∷ codes "42" ∷ codes "\"a b\"" ∷ codes "/*" ∷ codes "*/"
    ∷ codes "(" ∷ codes ")" ∷ codes "// TODO" ∷ codes "#x" ∷ codes "\\" ∷ []

-- a drawn word
abbrev pub drawn_word : ℕ → Drawn (List ℕ)
drawn_word x = let number = draw 12 x in record { value = get_or words number.value []; next = number.next }

-- so many drawn words, each behind a space
abbrev pub further_words : ℕ → ℕ → Drawn (List ℕ)
further_words zero x = record { value = []; next = x }
further_words (suc count) x =
    let word = drawn_word x in
    let further = further_words count word.next in
    record { value = codes " " ++ word.value ++ further.value; next = further.next }

-- a generated line: first it is drawn how many words stand behind the first one, at most five, and then
-- each word
abbrev pub generated_line : ℕ → Drawn (List ℕ)
generated_line x =
    let count = draw 6 x in
    let first = drawn_word count.next in
    let further = further_words count.value first.next in
    record { value = first.value ++ further.value; next = further.next }

-- so many generated lines, one after the other
abbrev pub generated_lines : ℕ → ℕ → Drawn (List (List ℕ))
generated_lines zero x = record { value = []; next = x }
generated_lines (suc count) x =
    let line = generated_line x in
    let lines = generated_lines count line.next in
    record { value = line.value ∷ lines.value; next = lines.next }

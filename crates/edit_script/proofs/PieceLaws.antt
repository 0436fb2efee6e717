-- Laws of pieces: bytes in two parts, lines with their breaks, and the lines of a script's end.
use Rattle.std.proofs.Common.{◌≡◌, ℕ, List, [], ◌∷◌, ◌++◌, refl, ap, sym, ◌∙◌, append_assoc, Bool, true, false}
use Rattle.std.specs.Prelude.{◌==◌, if◌then◌else◌}
use Rattle.std.proofs.Common.{◌⊎◌, inl, inr}
use Rattle.std.proofs.lemmas.Bool.{eqb-true}
use Rattle.text_buffer.specs.TextOfBytes.{line_break, pieces_of, longer_first, without_empty_last, lines_of_pieces, byte_lines}
use Rattle.edit_script.specs.Entries.{but_last, last_of, whole_lines, cut_line, broken}

-- the pieces with one byte more in front
abbrev put : Bool → ℕ → List (List ℕ) → List (List ℕ)
put breaks byte pieces = if breaks then [] ∷ pieces else longer_first byte pieces

-- there is a first piece
pieces_some : (bytes : List ℕ) → (first : List ℕ) × (rest : List (List ℕ)) × (pieces_of bytes ≡ first ∷ rest)
pieces_some [] = ([], [], refl)
pieces_some (byte ∷ bytes) = some (byte == line_break) byte (pieces_of bytes)
  where
    some : (breaks : Bool) (byte : ℕ) (pieces : List (List ℕ)) → (first : List ℕ) × (rest : List (List ℕ)) × (put breaks byte pieces ≡ first ∷ rest)
    some true byte pieces = ([], pieces, refl)
    some false byte [] = (byte ∷ [], [], refl)
    some false byte (piece ∷ pieces) = (byte ∷ piece, pieces, refl)

-- ---- lines

-- bytes without a line break
abbrev pub IsLine : List ℕ → Type 0
IsLine bytes = pieces_of bytes ≡ bytes ∷ []

abbrev pub AllLines : List (List ℕ) → Type 0
AllLines [] = Unit
AllLines (line ∷ lines) = IsLine line × AllLines lines

put_line : (breaks : Bool) (byte : ℕ) (pieces : List (List ℕ)) → (byte == line_break) ≡ breaks → AllLines pieces → AllLines (put breaks byte pieces)
put_line true byte pieces test lines = (refl, lines)
put_line false byte [] test lines = (rw test refl, tt)
put_line false byte (piece ∷ pieces) test lines = (rw (test, lines.0) refl, lines.1)

pub pieces_are_lines : (bytes : List ℕ) → AllLines (pieces_of bytes)
pieces_are_lines [] = (refl, tt)
pieces_are_lines (byte ∷ bytes) = put_line (byte == line_break) byte (pieces_of bytes) refl (pieces_are_lines bytes)

but_last_lines : (pieces : List (List ℕ)) → AllLines pieces → AllLines (but_last pieces)
but_last_lines [] lines = tt
but_last_lines (piece ∷ []) lines = tt
but_last_lines (piece ∷ next ∷ pieces) lines = (lines.0, but_last_lines (next ∷ pieces) lines.1)

last_line : (pieces : List (List ℕ)) → AllLines pieces → IsLine (last_of pieces)
last_line [] lines = refl
last_line (piece ∷ []) lines = lines.0
last_line (piece ∷ next ∷ pieces) lines = last_line (next ∷ pieces) lines.1

pub whole_are_lines : (bytes : List ℕ) → AllLines (whole_lines bytes)
whole_are_lines bytes = but_last_lines (pieces_of bytes) (pieces_are_lines bytes)

pub cut_is_line : (bytes : List ℕ) → IsLine (cut_line bytes)
cut_is_line bytes = last_line (pieces_of bytes) (pieces_are_lines bytes)

-- a line's first byte is no line break, and the rest is a line
parts : (breaks : Bool) (byte : ℕ) (bytes first : List ℕ) (rest : List (List ℕ)) → (byte == line_break) ≡ breaks → pieces_of bytes ≡ first ∷ rest → put breaks byte (first ∷ rest) ≡ (byte ∷ bytes) ∷ [] → ((byte == line_break) ≡ false) × IsLine bytes
parts true byte bytes first rest test some whole = absurd (cc)
parts false byte bytes first rest test some whole =
    let same : first ≡ bytes = cc in
    let none : rest ≡ [] = cc in
    (test, some ∙ ap (λ l. l ∷ rest) same ∙ ap (λ ls. bytes ∷ ls) none)

line_parts : (byte : ℕ) (bytes : List ℕ) → IsLine (byte ∷ bytes) → ((byte == line_break) ≡ false) × IsLine bytes
line_parts byte bytes line =
    let some = pieces_some bytes in
    parts (byte == line_break) byte bytes some.0 some.1 refl some.2 (rw some.2 at line)

-- a line with its break in front of bytes is a piece
pieces_behind_line : (line bytes : List ℕ) → IsLine line → pieces_of (line ++ line_break ∷ bytes) ≡ line ∷ pieces_of bytes
pieces_behind_line [] bytes is = refl
pieces_behind_line (byte ∷ line) bytes is =
    let p = line_parts byte line is in
    rw (p.0, pieces_behind_line line bytes p.1) refl

line_append : (line more : List ℕ) → IsLine line → IsLine more → IsLine (line ++ more)
line_append [] more is is_more = is_more
line_append (byte ∷ line) more is is_more =
    let p = line_parts byte line is in
    rw (p.0, line_append line more p.1 is_more) refl

pieces_behind_lines : (lines : List (List ℕ)) (bytes : List ℕ) → AllLines lines → pieces_of (broken lines ++ bytes) ≡ lines ++ pieces_of bytes
pieces_behind_lines [] bytes all = refl
pieces_behind_lines (line ∷ lines) bytes all =
    rw (append_assoc line (line_break ∷ broken lines) bytes, pieces_behind_line line (broken lines ++ bytes) all.0, pieces_behind_lines lines bytes all.1) refl

-- ---- bytes in two parts

append_step : (breaks : Bool) (byte : ℕ) (piece : List ℕ) (pieces : List (List ℕ)) (more : List ℕ) (all : List (List ℕ)) → (byte == line_break) ≡ breaks → all ≡ but_last (piece ∷ pieces) ++ pieces_of (last_of (piece ∷ pieces) ++ more) → put breaks byte all ≡ but_last (put breaks byte (piece ∷ pieces)) ++ pieces_of (last_of (put breaks byte (piece ∷ pieces)) ++ more)
append_step true byte piece pieces more all test so = ap (λ ls. [] ∷ ls) so
append_step false byte piece [] more all test so = rw test (ap (longer_first byte) so)
append_step false byte piece (next ∷ pieces) more all test so = ap (longer_first byte) so

pieces_append : (bytes more : List ℕ) → pieces_of (bytes ++ more) ≡ but_last (pieces_of bytes) ++ pieces_of (last_of (pieces_of bytes) ++ more)
pieces_append [] more = refl
pieces_append (byte ∷ bytes) more =
    let some = pieces_some bytes in
    let so : pieces_of (bytes ++ more) ≡ but_last (some.0 ∷ some.1) ++ pieces_of (last_of (some.0 ∷ some.1) ++ more) = rw some.2 at (pieces_append bytes more) in
    rw some.2 (append_step (byte == line_break) byte some.0 some.1 more (pieces_of (bytes ++ more)) refl so)

but_last_behind : (lines : List (List ℕ)) (piece : List ℕ) (pieces : List (List ℕ)) → but_last (lines ++ piece ∷ pieces) ≡ lines ++ but_last (piece ∷ pieces)
but_last_behind [] piece pieces = refl
but_last_behind (line ∷ []) piece pieces = refl
but_last_behind (line ∷ next ∷ lines) piece pieces = ap (λ ls. line ∷ ls) (but_last_behind (next ∷ lines) piece pieces)

last_behind : (lines : List (List ℕ)) (piece : List ℕ) (pieces : List (List ℕ)) → last_of (lines ++ piece ∷ pieces) ≡ last_of (piece ∷ pieces)
last_behind [] piece pieces = refl
last_behind (line ∷ []) piece pieces = refl
last_behind (line ∷ next ∷ lines) piece pieces = last_behind (next ∷ lines) piece pieces

-- where the pieces of bytes are these lines and the pieces of other bytes, so are the whole lines
whole_by : (bytes : List ℕ) (lines : List (List ℕ)) (other : List ℕ) → pieces_of bytes ≡ lines ++ pieces_of other → whole_lines bytes ≡ lines ++ whole_lines other
whole_by bytes lines other so =
    let some = pieces_some other in
    rw (so, some.2) (but_last_behind lines some.0 some.1)

cut_by : (bytes : List ℕ) (lines : List (List ℕ)) (other : List ℕ) → pieces_of bytes ≡ lines ++ pieces_of other → cut_line bytes ≡ cut_line other
cut_by bytes lines other so =
    let some = pieces_some other in
    rw (so, some.2) (last_behind lines some.0 some.1)

pub whole_append : (bytes more : List ℕ) → whole_lines (bytes ++ more) ≡ whole_lines bytes ++ whole_lines (cut_line bytes ++ more)
whole_append bytes more = whole_by (bytes ++ more) (whole_lines bytes) (cut_line bytes ++ more) (pieces_append bytes more)

pub cut_append : (bytes more : List ℕ) → cut_line (bytes ++ more) ≡ cut_line (cut_line bytes ++ more)
cut_append bytes more = cut_by (bytes ++ more) (whole_lines bytes) (cut_line bytes ++ more) (pieces_append bytes more)

pub whole_behind : (lines : List (List ℕ)) (bytes : List ℕ) → AllLines lines → whole_lines (broken lines ++ bytes) ≡ lines ++ whole_lines bytes
whole_behind lines bytes all = whole_by (broken lines ++ bytes) lines bytes (pieces_behind_lines lines bytes all)

pub cut_behind : (lines : List (List ℕ)) (bytes : List ℕ) → AllLines lines → cut_line (broken lines ++ bytes) ≡ cut_line bytes
cut_behind lines bytes all = cut_by (broken lines ++ bytes) lines bytes (pieces_behind_lines lines bytes all)

-- ---- one more line break, and more bytes without one

pub whole_break : (bytes : List ℕ) → whole_lines (bytes ++ line_break ∷ []) ≡ whole_lines bytes ++ cut_line bytes ∷ []
whole_break bytes =
    let line = pieces_behind_line (cut_line bytes) [] (cut_is_line bytes) in
    rw (whole_append bytes (line_break ∷ [])) (ap (λ ps. whole_lines bytes ++ but_last ps) line)

pub cut_break : (bytes : List ℕ) → cut_line (bytes ++ line_break ∷ []) ≡ []
cut_break bytes =
    cut_append bytes (line_break ∷ []) ∙ ap last_of (pieces_behind_line (cut_line bytes) [] (cut_is_line bytes))

pub whole_more : (bytes more : List ℕ) → IsLine more → whole_lines (bytes ++ more) ≡ whole_lines bytes
whole_more bytes more is =
    let line = line_append (cut_line bytes) more (cut_is_line bytes) is in
    let none : whole_lines (cut_line bytes ++ more) ≡ [] = ap but_last line in
    whole_append bytes more ∙ ap (λ ls. whole_lines bytes ++ ls) none ∙ append_nil (whole_lines bytes)
  where
    append_nil : (lines : List (List ℕ)) → lines ++ [] ≡ lines
    append_nil [] = refl
    append_nil (line ∷ lines) = ap (λ ls. line ∷ ls) (append_nil lines)

pub cut_more : (bytes more : List ℕ) → IsLine more → cut_line (bytes ++ more) ≡ cut_line bytes ++ more
cut_more bytes more is =
    cut_append bytes more ∙ ap last_of (line_append (cut_line bytes) more (cut_is_line bytes) is)

-- ---- bytes are their whole lines and the rest

put_join : (breaks : Bool) (byte : ℕ) (piece : List ℕ) (pieces : List (List ℕ)) → (byte == line_break) ≡ breaks → broken (but_last (put breaks byte (piece ∷ pieces))) ++ last_of (put breaks byte (piece ∷ pieces)) ≡ byte ∷ (broken (but_last (piece ∷ pieces)) ++ last_of (piece ∷ pieces))
put_join true byte piece pieces test =
    let same : line_break ≡ byte = sym (eqb-true byte line_break test) in
    ap (λ c. c ∷ (broken (but_last (piece ∷ pieces)) ++ last_of (piece ∷ pieces))) same
put_join false byte piece [] test = refl
put_join false byte piece (next ∷ pieces) test = refl

pub joined : (bytes : List ℕ) → broken (whole_lines bytes) ++ cut_line bytes ≡ bytes
joined [] = refl
joined (byte ∷ bytes) =
    let some = pieces_some bytes in
    let so : broken (but_last (some.0 ∷ some.1)) ++ last_of (some.0 ∷ some.1) ≡ bytes = rw some.2 at (joined bytes) in
    rw some.2 (put_join (byte == line_break) byte some.0 some.1 refl ∙ ap (λ bs. byte ∷ bs) so)

-- a cut line has no whole line
pub no_whole : (bytes : List ℕ) → whole_lines (cut_line bytes) ≡ []
no_whole bytes = ap but_last (cut_is_line bytes)

-- ---- the lines where the script ends

-- behind a last piece that isn't empty
full_last : (piece : List ℕ) (pieces : List (List ℕ)) (byte : ℕ) (rest : List ℕ) → last_of (piece ∷ pieces) ≡ byte ∷ rest → without_empty_last (piece ∷ pieces) ≡ but_last (piece ∷ pieces) ++ (byte ∷ rest) ∷ []
full_last [] [] byte rest last = absurd (cc)
full_last (b ∷ piece) [] byte rest last = ap (λ l. l ∷ []) last
full_last [] (next ∷ pieces) byte rest last = ap (λ ls. [] ∷ ls) (full_last next pieces byte rest last)
full_last (b ∷ piece) (next ∷ pieces) byte rest last = ap (λ ls. (b ∷ piece) ∷ ls) (full_last next pieces byte rest last)

empty_last : (piece : List ℕ) (pieces : List (List ℕ)) → last_of (piece ∷ pieces) ≡ [] → without_empty_last (piece ∷ pieces) ≡ but_last (piece ∷ pieces)
empty_last [] [] last = refl
empty_last (b ∷ piece) [] last = absurd (cc)
empty_last [] (next ∷ pieces) last = ap (λ ls. [] ∷ ls) (empty_last next pieces last)
empty_last (b ∷ piece) (next ∷ pieces) last = ap (λ ls. (b ∷ piece) ∷ ls) (empty_last next pieces last)

full_lines : (pieces : List (List ℕ)) (piece : List ℕ) (byte : ℕ) (rest : List ℕ) → last_of (piece ∷ pieces) ≡ byte ∷ rest → lines_of_pieces (piece ∷ pieces) ≡ but_last (piece ∷ pieces) ++ (byte ∷ rest) ∷ []
full_lines [] piece byte rest last = ap (λ l. l ∷ []) last
full_lines (next ∷ pieces) piece byte rest last = ap (λ ls. piece ∷ ls) (full_last next pieces byte rest last)

empty_lines : (pieces : List (List ℕ)) (piece : List ℕ) → last_of (piece ∷ pieces) ≡ [] → ((but_last (piece ∷ pieces) ≡ []) × (lines_of_pieces (piece ∷ pieces) ≡ [] ∷ [])) ⊎ (lines_of_pieces (piece ∷ pieces) ≡ but_last (piece ∷ pieces))
empty_lines [] piece last = inl (refl, ap (λ l. l ∷ []) last)
empty_lines (next ∷ pieces) piece last = inr (ap (λ ls. piece ∷ ls) (empty_last next pieces last))

-- where the last line isn't empty it counts
pub end_full : (bytes : List ℕ) (byte : ℕ) (rest : List ℕ) → cut_line bytes ≡ byte ∷ rest → byte_lines bytes ≡ whole_lines bytes ++ (byte ∷ rest) ∷ []
end_full bytes byte rest cut =
    let some = pieces_some bytes in
    let last : last_of (some.0 ∷ some.1) ≡ byte ∷ rest = rw some.2 at cut in
    rw some.2 (full_lines some.1 some.0 byte rest last)

-- where it is empty it counts only if there is no other line
pub end_empty : (bytes : List ℕ) → cut_line bytes ≡ [] → ((whole_lines bytes ≡ []) × (byte_lines bytes ≡ [] ∷ [])) ⊎ (byte_lines bytes ≡ whole_lines bytes)
end_empty bytes cut =
    let some = pieces_some bytes in
    let last : last_of (some.0 ∷ some.1) ≡ [] = rw some.2 at cut in
    rw some.2 (empty_lines some.1 some.0 last)

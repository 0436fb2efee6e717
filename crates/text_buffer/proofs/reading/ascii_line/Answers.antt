use Rattle.std.proofs.Common.{◌≡◌, ◌∙◌, sym, ap, arith, ℕ, List, length, Ok}
use Rattle.std.specs.Str.{IsAscii, chars}
use Rattle.std.proofs.lemmas.Str.{IsUtf8-from_ascii, chars-IsAscii}
use Rattle.text_buffer.proofs.LineLaws.{too_long, well_formed}
use Rattle.text_buffer.proofs.reading.ascii_line.Goals as goal

-- as many characters as bytes
same_count : (bytes : List ℕ) → IsAscii bytes → length (chars bytes) ≡ length bytes
same_count bytes ascii = ap (λ (l : List ℕ). length l) (chars-IsAscii bytes ascii)

pub returns-then-bytes-gt-MOST_CHARS : goal.returns-then-bytes-gt-MOST_CHARS
returns-then-bytes-gt-MOST_CHARS c =
    let bytes = c.args.bytes.now in
    let same = same_count bytes c.requires in
    sym (too_long bytes (IsUtf8-from_ascii bytes c.requires) (omega arith))

pub returns : goal.returns
returns c =
    let bytes = c.args.bytes.now in
    let same = same_count bytes c.requires in
    sym (well_formed bytes (IsUtf8-from_ascii bytes c.requires) (omega arith)
    ∙ ap (λ (l : List ℕ). Ok l) (chars-IsAscii bytes c.requires ∙ sym c.in_ok-ascii_chars.ensures ∙ sym c.from_vec.ensures))

use Rattle.std.proofs.Common.{◌≡◌, ℕ, List, length, ap, sym, ◌∙◌, arith}
use Rattle.std.specs.Str.{chars}
use Rattle.std.specs.Prelude.{Ok}
use Rattle.text_buffer.proofs.LineLaws.{not_utf8, too_long, well_formed}
use Rattle.text_buffer.proofs.reading.line_of_bytes.Goals as goal

-- the characters counted are those of the bytes
same_count : (text bytes : List ℕ) → text ≡ bytes → length (chars text) ≡ length (chars bytes)
same_count text bytes e = ap (λ (t : List ℕ). length (chars t)) e

pub returns-in_default : goal.returns-in_default
returns-in_default c = sym (not_utf8 c.args.bytes.now (c.in_default.ensures.cases).0)

pub returns-then-char_count-gt-MOST_CHARS : goal.returns-then-char_count-gt-MOST_CHARS
returns-then-char_count-gt-MOST_CHARS c =
    let same = same_count c.in-Ok.text.now c.args.bytes.now (c.in-Ok.ensures.cases).0 in
    sym (too_long c.args.bytes.now (c.in-Ok.ensures.cases).1 (omega arith))

pub returns : goal.returns
returns c =
    let same = same_count c.in-Ok.text.now c.args.bytes.now (c.in-Ok.ensures.cases).0 in
    sym (well_formed c.args.bytes.now (c.in-Ok.ensures.cases).1 (omega arith) ∙ ap (λ t. Ok t) (sym (c.in_ok-from_chars.ensures ∙ ap chars (c.in-Ok.ensures.cases).0)))

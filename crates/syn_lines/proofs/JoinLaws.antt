-- One physical line more leaves what the lines make together.
use Rattle.std.proofs.Common.{◌≡◌, ◌<◌, ◌+◌, ℕ, suc, drop, length, List, [], ◌∷◌, ◌++◌, map, refl, ap, ◌∙◌, sym, append_assoc, arith, true}
use Rattle.std.specs.Prelude.{Option, Some, None}
use Rattle.std.specs.Str.{chars, is_utf8}
use Rattle.std.proofs.lemmas.List.{append-nil}
use Rattle.text_buffer.specs.Reading.{lines_after}
use Rattle.text_buffer.specs.TextOfBytes.{byte_lines}
use Rattle.text_buffer.proofs.LineLaws.{lines_after_some}
use Rattle.syn_lines.specs.Continuation.{PhysicalLine, Starts, Continues, Remark, kind_of}
use Rattle.syn_lines.specs.LogicalLines.{appended, logical, lines_from, first_bad}
use Rattle.syn_lines.specs.Joining.{with_kind, with_line, extended, extended_unless, read_on}
use Rattle.syn_lines.specs.declared.joined.Joined.{Joined}
use Rattle.syn_lines.specs.declared.line.LogicalLine.{LogicalLine}
use Rattle.syn_lines.specs.declared.line.LogicalLines.{LogicalLines}
use Rattle.syn_lines.specs.declared.line.LogicalLines.TheVariants.{Lines}

abbrev line_of : ℕ → List ℕ → LogicalLine
line_of number text = record { number = number; text = text }

by_kind : (j : Joined) (n : ℕ) (line : List ℕ) (lines : List (List ℕ)) (k : PhysicalLine) →
    j.done ++ line_of j.current.number (j.current.text ++ elim k [ Continues rest ↦ rest ++ appended lines | Remark ↦ appended lines | Starts ↦ [] ])
    ∷ elim k [ Starts ↦ logical n line lines ∷ lines_from (suc n) lines | Continues rest ↦ lines_from (suc n) lines | Remark ↦ lines_from (suc n) lines ]
    ≡ extended (with_kind j n line k) (suc n) lines
by_kind j n line lines Starts =
    ap (λ t. j.done ++ line_of j.current.number t ∷ logical n line lines ∷ lines_from (suc n) lines) (append-nil j.current.text)
    ∙ sym (append_assoc j.done (j.current ∷ []) (logical n line lines ∷ lines_from (suc n) lines))
by_kind j n line lines (Continues rest) =
    ap (λ t. j.done ++ line_of j.current.number t ∷ lines_from (suc n) lines) (sym (append_assoc j.current.text rest (appended lines)))
by_kind j n line lines Remark = refl

pub extended_step : (j : Joined) (n : ℕ) (line : List ℕ) (lines : List (List ℕ)) → extended j n (line ∷ lines) ≡ extended (with_line j n line) (suc n) lines
extended_step j n line lines = by_kind j n line lines (kind_of line)

by_rest : (o : Option ℕ) (j : Joined) (n : ℕ) (line : List ℕ) (lines : List (List ℕ)) →
    extended_unless o j n (line ∷ lines) ≡ extended_unless o (with_line j n (chars line)) (suc n) lines
by_rest None j n line lines = ap (λ ls. Lines ls) (extended_step j n (chars line) (map chars lines))
by_rest (Some bad) j n line lines = refl

pub read_step : (j : Joined) (n : ℕ) (line : List ℕ) (lines : List (List ℕ)) → is_utf8 line ≡ true →
    read_on j n (line ∷ lines) ≡ read_on (with_line j n (chars line)) (suc n) lines
read_step j n line lines good = rw good (by_rest (first_bad (suc n) lines) j n line lines)

-- one line of bytes more, as the loop has it
pub read_further : (bytes : List ℕ) (at : ℕ) (j k : Joined) (n : ℕ) (slice line : List ℕ) (coming : List (List ℕ)) (all : LogicalLines) → at < length bytes →
    all ≡ read_on j n (lines_after bytes at) → byte_lines (drop at bytes) ≡ slice ∷ coming → (is_utf8 slice ≡ true) × (line ≡ chars slice) → k ≡ with_line j n line →
    all ≡ read_on k (n + 1) coming
read_further bytes at j k n slice line coming all within so_far here good new =
    let e : n + 1 ≡ suc n = omega arith in
    rw e (so_far ∙ ap (λ ls. read_on j n ls) (lines_after_some bytes at within ∙ here) ∙ read_step j n slice coming good.0
    ∙ ap (λ t. read_on (with_line j n t) (suc n) coming) (sym good.1) ∙ ap (λ m. read_on m (suc n) coming) (sym new))

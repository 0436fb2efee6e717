-- Joining in the middle of a file: what the lines read so far and the lines to come make together.
use Rattle.std.specs.Prelude.{ℕ, List, [], ◌∷◌, ◌++◌, map, Option, Some, None}
use Rattle.std.specs.Str.{chars}
use Rattle.syn_lines.specs.Continuation.{PhysicalLine, Starts, Continues, Remark, kind_of}
use Rattle.syn_lines.specs.LogicalLines.{logical, lines_from, first_bad}
use Rattle.syn_lines.specs.declared.joined.Joined.{Joined}
use Rattle.syn_lines.specs.declared.joined.Kind.{Kind}
use Rattle.syn_lines.specs.declared.joined.Kind.TheVariants as kind
use Rattle.syn_lines.specs.declared.line.LogicalLine.{LogicalLine}
use Rattle.syn_lines.specs.declared.line.LogicalLines.{LogicalLines}
use Rattle.syn_lines.specs.declared.line.LogicalLines.TheVariants.{Lines, BadUtf8}

-- a kind without addresses
abbrev pub seen : Kind → PhysicalLine
seen kind.Starts = Starts
seen (kind.Continues rest) = Continues rest.now
seen kind.Remark = Remark

abbrev pub with_kind : Joined → ℕ → List ℕ → PhysicalLine → Joined
with_kind joined number line Starts = record { done = joined.done ++ joined.current ∷ []; current = record { number = number; text = line } }
with_kind joined number line (Continues rest) = record { done = joined.done; current = record { number = joined.current.number; text = joined.current.text ++ rest } }
with_kind joined number line Remark = joined

-- one physical line more
abbrev pub with_line : Joined → ℕ → List ℕ → Joined
with_line joined number line = with_kind joined number line (kind_of line)

abbrev pub ended : Joined → List LogicalLine
ended joined = joined.done ++ joined.current ∷ []

-- the logical lines, with the physical lines that come
abbrev pub extended : Joined → ℕ → List (List ℕ) → List LogicalLine
extended joined number lines = joined.done ++ logical joined.current.number joined.current.text lines ∷ lines_from number lines

abbrev pub extended_unless : Option ℕ → Joined → ℕ → List (List ℕ) → LogicalLines
extended_unless None joined number lines = Lines (extended joined number (map chars lines))
extended_unless (Some bad) joined number lines = BadUtf8 bad

-- the same of lines of bytes
abbrev pub read_on : Joined → ℕ → List (List ℕ) → LogicalLines
read_on joined number lines = extended_unless (first_bad number lines) joined number lines

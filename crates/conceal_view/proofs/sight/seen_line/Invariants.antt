use Rattle.std.proofs.Common.{◌≡◌, drop, length}
use Rattle.syn_base.specs.SpansFit.{IsFromColumn}
use Rattle.conceal_view.specs.Cells.{cells_from}
use Rattle.conceal_view.specs.Seeing.{blocks_by, seen_at_last}
use Rattle.conceal_view.specs.View.{seen_line}
use Rattle.conceal_view.proofs.sight.seen_line.Given as goal

-- what is seen so far, with the spans to come, is the whole view
abbrev pub invariant-loop-span : goal.invariant-loop-span
invariant-loop-span l = record {
  apart : IsFromColumn l.column (length l.line) (drop l.span-index l.spans);
  so_far : seen_at_last (blocks_by l.blocks.puts.now) l.blocks.cover l.sight (cells_from (drop l.span-index l.spans) l.column (drop l.column l.line))
      ≡ seen_line (blocks_by l.blocks.puts.now) l.blocks.cover l.line l.spans;
}

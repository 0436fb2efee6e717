use Rattle.std.proofs.Common.{◌≡◌, ◌++◌, drop, length}
use Rattle.syn_base.specs.SpansFit.{IsFromColumn}
use Rattle.html_writer.specs.Page.{spanned_text}
use Rattle.html_writer.proofs.lines.push_spanned.Given as goal

-- what was written, with the spans to come, is the whole line
abbrev pub invariant-loop-span : goal.invariant-loop-span
invariant-loop-span l = record {
  apart : IsFromColumn l.column (length l.line) (drop l.span-index l.spans);
  so_far : l.page.items ++ spanned_text l.groups l.links l.pre l.line l.column (drop l.span-index l.spans)
      ≡ l.initial.page.items ++ spanned_text l.groups l.links l.pre l.line 0 l.spans;
}

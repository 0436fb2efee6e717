use Rattle.std.proofs.Common.{◌≡◌, ◌++◌, take}
use Rattle.span_print.specs.SpanText.{spans_text}
use Rattle.span_print.proofs.spans.push_span_text.Given as goal

-- the spans so far stand behind what was there
abbrev pub invariant-loop-span : goal.invariant-loop-span
invariant-loop-span l =
    l.out.items ≡ l.initial.out.items ++ spans_text l.groups l.links l.number (take l.span-index l.spans)

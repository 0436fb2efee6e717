use Rattle.paint_laws.proofs.SpanLaws.{spans_show_the_stack, one_stands_at_a_column}
use Rattle.paint_laws.proofs.OneSpansLaws.{no_other_spans_do}
use Rattle.paint_laws.proofs.spans_show_the_stack.Goals as goal

pub returns : goal.returns
returns c = record { spans = spans_show_the_stack; one = one_stands_at_a_column; no_others = no_other_spans_do }

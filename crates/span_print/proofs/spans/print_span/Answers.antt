use Rattle.std.proofs.Common.{rules}
use Rattle.std.proofs.lemmas.List.{append_assoc}
use Rattle.span_print.proofs.spans.print_span.Goals as goal

pub returns : goal.returns
returns c = search (rules, append_assoc)

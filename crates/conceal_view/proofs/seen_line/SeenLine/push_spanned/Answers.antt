use Rattle.std.proofs.Common.{◌≡◌, ℕ, ◌+◌, ◌-◌, ◌<◌, ◌++◌, List, length, ap, sym, ◌∙◌, arith}
use Rattle.std.proofs.lemmas.List.{length-append}
use Rattle.std.proofs.lemmas.Result.{on_ok_weaker}
use Rattle.syn_base.specs.declared.places.Span.{Span}
use Rattle.conceal_view.specs.Cells.{SeenLine, with_run}
use Rattle.conceal_view.proofs.RunLaws.{one_span_to, some_there}
use Rattle.conceal_view.proofs.seen_line.SeenLine.push_spanned.Goals as goal

pub returns : goal.returns
returns c =
    let line : SeenLine = record { chars = c.self.inside.chars.items; spans = c.self.inside.spans.items } in
    let chars = c.args.chars.now in
    let put : c.extend_from_slice.new.self.items ≡ line.chars ++ chars = c.in_ok-extend_from_slice.ensures.items in
    let last = c.len.result - 1 in
    let n : c.len-first.result ≡ length c.self.inside.chars.items = omega arith in
    let many : length c.extend_from_slice.new.self.items ≡ length line.chars + length chars = ap length put ∙ length-append line.chars chars in
    let some : 0 < length chars = some_there (length chars) c.if-is_empty.ensures in
    rw (← c.self.view_is)
    (on_ok_weaker c.push_span.result
    (λ (spans : c.push_span.new.spans.items ≡ with_run c.self.inside.spans.items c.len-first.result last c.args.group).
    ap (λ (ss : List Span). record { chars = c.extend_from_slice.new.self.items; spans = ss }) spans
    ∙ ap (λ (cs : List ℕ). record { chars = cs; spans = with_run line.spans c.len-first.result last c.args.group }) put
    ∙ ap (λ (n : ℕ). record { chars = line.chars ++ chars; spans = with_run line.spans n last c.args.group }) n
    ∙ sym (one_span_to line c.args.group chars last (omega (arith, many, some)) some))
    c.push_span.ensures)

use Rattle.std.proofs.Common.{◌≤◌, ◌<◌, ◌+◌, ◌∙◌, ◌++◌, List, ap, arith, length, false}
use Rattle.syn_base.specs.declared.places.Span.{Span}
use Rattle.span_print.specs.SpanText.{line_text}
use Rattle.vimsyn_cli.proofs.PrintLaws.{all_printed, printed_further}
use Rattle.vimsyn_cli.proofs.spans.spans_bytes.Goals as goal

pub loop-number-preserved : goal.loop-number-preserved
loop-number-preserved g c =
    let painting = g.P.Colours.coloured c.args.painting.now in
    let names = c.args.groups.now in
    let links = c.args.links.now in
    let number = c.loop-number.number in
    let within : number < length painting = omega (arith, c.loop-number-test.true, c.len-number-end.ensures.count, c.requires.as_many) in
    printed_further names links painting number (number + 1) c.loop-number.out.items _ _ (omega arith) within
    (c.in_ok-push_span_text.ensures
    ∙ ap (λ (spans : List Span). c.loop-number.out.items ++ line_text names links number spans false) c.spans_at-spans.ensures.is)
    c.loop-number.invariant

pub returns : goal.returns
returns g c =
    let spans = g.P.Colours.coloured c.args.painting.now in
    let past : length spans ≤ c.loop-number.number = omega (arith, c.loop-number-test.false, c.len-number-end.ensures.count, c.requires.as_many) in
    c.from_vec.ensures
    ∙ all_printed c.args.groups.now c.args.links.now spans c.loop-number.number c.loop-number.out.items _ past c.loop-number.invariant

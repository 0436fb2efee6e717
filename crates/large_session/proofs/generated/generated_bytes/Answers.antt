use Rattle.std.proofs.Common.{◌≡◌, ◌++◌, ◌-◌, ◌∙◌, ap, sym, arith}
use Rattle.std.proofs.lemmas.List.{append-nil}
use Rattle.text_buffer.specs.BytesOfText.{bytes_of}
use Rattle.large_session.specs.GeneratedText.{generated_lines}
use Rattle.large_session.proofs.OnwardLaws.{lines_behind, lines_on}
use Rattle.large_session.proofs.generated.generated_bytes.Goals as goal

pub loop-preserved : goal.loop-preserved
loop-preserved c = record {
  bytes = lines_on c.loop.out.items c.push_generated.new.out.items _ c.args.count c.loop.counter c.loop.draws c.push_generated.new.draws c.loop-test.true c.loop.invariant.bytes c.in_ok-push_generated.ensures.bytes c.in_ok-push_generated.ensures.draws;
  draws = lines_behind c.args.count c.loop.counter c.loop.draws c.push_generated.new.draws _ c.loop-test.true c.loop.invariant.draws c.in_ok-push_generated.ensures.draws;
}

pub returns-clause-bytes : goal.returns-clause-bytes
returns-clause-bytes c =
    let done : c.args.count - c.loop.counter ≡ 0 = omega arith in
    c.from_vec.ensures
    ∙ sym (append-nil c.loop.out.items)
    ∙ ap (λ n. c.loop.out.items ++ bytes_of (generated_lines n c.loop.draws).value) (sym done)
    ∙ c.loop.invariant.bytes

pub returns-clause-draws : goal.returns-clause-draws
returns-clause-draws c =
    let done : c.args.count - c.loop.counter ≡ 0 = omega arith in
    ap (λ n. (generated_lines n c.loop.draws).next) (sym done) ∙ c.loop.invariant.draws

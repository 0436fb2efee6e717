use Rattle.large_session.proofs.OnwardLaws.{words_behind, words_on}
use Rattle.large_session.proofs.generated.push_further.Goals as goal
use Rattle.std.proofs.Common.{◌++◌, ◌∙◌, ap}
use Rattle.large_session.specs.GeneratedText.{drawn_word}

pub loop-preserved : goal.loop-preserved
loop-preserved c = record {
  line = words_on c.loop.line c.push_word.new.line _ c.args.count c.loop.counter c.loop.draws c.push_word.new.draws c.loop-test.true c.loop.invariant.line
      (c.in_ok-push_word.ensures.line ∙ ap (λ l. l ++ (drawn_word c.loop.draws).value) c.in_ok-push.ensures.ok) c.in_ok-push_word.ensures.draws;
  draws = words_behind c.args.count c.loop.counter c.loop.draws c.push_word.new.draws _ c.loop-test.true c.loop.invariant.draws c.in_ok-push_word.ensures.draws;
}

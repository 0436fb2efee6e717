use Rattle.std.proofs.Common.{◌≡◌, ◌++◌, ◌-◌}
use Rattle.large_session.specs.GeneratedText.{further_words}
use Rattle.large_session.proofs.generated.push_further.Given as goal

-- what was pushed, with the words to come, is the whole
abbrev pub invariant-loop : goal.invariant-loop
invariant-loop l = record {
  line : l.line ++ (further_words (l.count - l.counter) l.draws).value ≡ l.initial.line ++ (further_words l.count l.initial.draws).value;
  draws : (further_words (l.count - l.counter) l.draws).next ≡ (further_words l.count l.initial.draws).next;
}

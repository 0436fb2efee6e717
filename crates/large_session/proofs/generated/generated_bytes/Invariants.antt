use Rattle.std.proofs.Common.{◌≡◌, ◌++◌, ◌-◌}
use Rattle.text_buffer.specs.BytesOfText.{bytes_of}
use Rattle.large_session.specs.GeneratedText.{generated_lines}
use Rattle.large_session.proofs.generated.generated_bytes.Given as goal

-- what was pushed, with the lines to come, is the whole
abbrev pub invariant-loop : goal.invariant-loop
invariant-loop l = record {
  bytes : l.out.items ++ bytes_of (generated_lines (l.count - l.counter) l.draws).value ≡ bytes_of (generated_lines l.count l.initial.draws).value;
  draws : (generated_lines (l.count - l.counter) l.draws).next ≡ (generated_lines l.count l.initial.draws).next;
}

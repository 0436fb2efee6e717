use Rattle.std.proofs.Common.{◌≡◌, length}
use Rattle.word_reader.specs.Words.{past_command}
use Rattle.word_reader.proofs.words.past_command.Given as goal

abbrev pub invariant-loop-c : goal.invariant-loop-c
invariant-loop-c l = past_command l.may_begin l.rest ≡ past_command l.fn.may_begin l.text

abbrev pub decreases-loop-c : goal.decreases-loop-c
decreases-loop-c l = length l.rest

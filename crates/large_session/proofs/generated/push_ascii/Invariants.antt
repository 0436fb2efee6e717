use Rattle.std.proofs.Common.{◌≡◌, ◌++◌, drop}
use Rattle.large_session.proofs.generated.push_ascii.Given as goal

-- what was pushed, with the characters to come, is the whole
abbrev pub invariant-loop-code : goal.invariant-loop-code
invariant-loop-code l = l.line ++ drop l.code-index l.codes ≡ l.initial.line ++ l.codes

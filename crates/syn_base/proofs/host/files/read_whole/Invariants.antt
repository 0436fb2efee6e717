use Rattle.std.proofs.Common.{◌≤◌, vec_len}
use Rattle.syn_base.proofs.host.files.read_whole.Given as goal

-- what was read so far is within the limit
abbrev pub invariant-loop : goal.invariant-loop
invariant-loop g l = vec_len l.bytes ≤ l.limit

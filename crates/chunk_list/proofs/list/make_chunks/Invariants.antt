use Rattle.std.proofs.Common.{◌-◌, ◌≤◌, vec_len}
use Rattle.chunk_list.proofs.list.make_chunks.Given as goal

abbrev pub invariant-more : goal.invariant-more
invariant-more g l = vec_len l.initial.chunks ≤ vec_len l.chunks

abbrev pub decreases-more : goal.decreases-more
decreases-more g l = l.count - vec_len l.chunks

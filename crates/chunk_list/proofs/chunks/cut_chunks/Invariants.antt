use Rattle.std.proofs.Common.{◌≡◌, ◌≤◌, ◌++◌, take, drop, vec_capacity, vec_len}
use Rattle.chunk_list.specs.Flat.{cut_of}
use Rattle.chunk_list.proofs.chunks.cut_chunks.Given as goal

-- what was cut so far, and the cut chunks to come
abbrev pub invariant-loop-i : goal.invariant-loop-i
invariant-loop-i g l = record {
  whole : take l.i l.chunks.items ++ cut_of (drop l.i l.chunks.items) l.from l.to ≡ cut_of l.initial.chunks.items l.a l.b;
  ordered : l.from ≤ l.to;
  count : vec_len l.chunks ≡ vec_len l.initial.chunks;
  room : vec_capacity l.chunks ≡ vec_capacity l.initial.chunks;
}

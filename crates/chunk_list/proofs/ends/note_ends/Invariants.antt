use Rattle.std.proofs.Common.{◌≡◌, ◌++◌, take, drop, length, vec_capacity, vec_len}
use Rattle.chunk_list.specs.Flat.{ends_from, flat}
use Rattle.chunk_list.proofs.ends.note_ends.Given as goal

-- the ends so far, and those to come
abbrev pub invariant-loop-chunk : goal.invariant-loop-chunk
invariant-loop-chunk g l = record {
  whole : l.ends.items ++ ends_from l.end (drop l.chunk-index l.chunks.items) ≡ ends_from 0 l.chunks.items;
  end : l.end ≡ length (flat (take l.chunk-index l.chunks.items));
  count : vec_len l.ends ≡ l.chunk-index;
  room : vec_capacity l.ends ≡ vec_capacity l.initial.ends;
}

use Rattle.std.proofs.Common.{◌≡◌, ◌+◌, drop, length, take}
use Rattle.chunk_list.specs.Flat.{even_of, flat}
use Rattle.chunk_list.proofs.ends.even_count.Given as goal

-- the full chunks so far, and what is to come
abbrev pub invariant-loop-chunk : goal.invariant-loop-chunk
invariant-loop-chunk g l = record {
  whole : l.count + even_of (drop l.chunk-index l.chunks.items) ≡ even_of l.chunks.items;
  within : l.count ≡ length (flat (take l.chunk-index l.chunks.items));
}

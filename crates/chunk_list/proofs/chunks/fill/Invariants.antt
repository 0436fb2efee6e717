use Rattle.std.proofs.Common.{◌≡◌, ◌++◌, length, vec_capacity, vec_len}
use Rattle.std.specs.Vec.Iter.{into_iter_items, into_iter_len}
use Rattle.chunk_list.proofs.FillLaws.{Filled}
use Rattle.chunk_list.proofs.chunks.fill.Given as goal

-- the elements so far stand in the chunks put behind, which are full, and in the one that is filled
abbrev pub invariant-loop-x : goal.invariant-loop-x
invariant-loop-x g l = record {
  filled : Filled l.initial.chunks.items l.chunks.items l.chunk l.yielded (vec_len l.empty) (vec_len l.initial.empty);
  room : vec_capacity l.chunks ≡ vec_capacity l.initial.chunks;
  to_come : l.yielded ++ into_iter_items l.x-iterator ≡ l.fn.new.items;
  count : into_iter_len l.x-iterator ≡ length (into_iter_items l.x-iterator);
}

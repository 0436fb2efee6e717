-- What stands in a list in chunks, besides the elements.
use Rattle.std.specs.Prelude.{◌≡◌, ◌-◌, ◌*◌, ◌<◌, ◌≤◌, ◌^◌, ℕ, List, length}
use Rattle.chunk_list.specs.Flat.{ends_from, even_of, flat}

-- Where each chunk ends is noted, and how many elements stand as if all chunks were full. For the spare
-- elements there are chunks made before, and one more for a chunk that is cut in two; there is as much
-- room among the chunks and among their ends.
pub record Stands {X : Type 0} (chunks : List (List X)) (ends : List ℕ) (even spare empty room_chunks room_ends : ℕ) : Type 0 where
  pub ends_are : ends ≡ ends_from 0 chunks
  pub even_is : even ≡ even_of chunks
  pub few : length (flat chunks) < 2 ^ 32
  pub spare_empty : spare ≤ 512 * (empty - 1)
  pub spare_chunks : spare ≤ 512 * (room_chunks - 1)
  pub spare_ends : spare ≤ 512 * (room_ends - 1)

use Rattle.std.proofs.Common.{arith, ap, ◌≡◌, ◌-◌, ◌*◌, ◌≤◌, length, vec_capacity, vec_len}
use Rattle.chunk_list.proofs.CutLaws.{room_for_ends}
use Rattle.chunk_list.proofs.EndLaws.{length-ends_from}
use Rattle.chunk_list.proofs.list.ChunkList.replace_reserved.Goals as goal

pub note_ends-requires-clause-room : goal.note_ends-requires-clause-room
note_ends-requires-clause-room g c =
    let chunks = c.self.inside.chunks in
    let ends = c.self.inside.ends in
    let inv = c.self.invariant in
    let same : vec_len ends ≡ vec_len chunks = omega (arith, ends.ok.0, ap length inv.ends_are, length-ends_from chunks.items 0, chunks.ok.0) in
    let few : vec_len chunks ≤ vec_capacity ends = omega (arith, same, ends.ok.1) in
    let spare = ap (λ p. p.1) c.self.view_is in
    let count = ap length c.into_vec.ensures in
    let room : length c.into_vec.result.items ≤ 512 * (vec_capacity ends - vec_len chunks - 1) = omega (arith, count, c.requires.room, spare, inv.spare_ends, same) in
    let put = room_for_ends (length c.into_vec.result.items) (vec_len chunks) (vec_len c.take_out.new.chunks) (vec_len c.put_in.new.chunks) (vec_capacity ends) c.take_out.ensures.count few room c.put_in.ensures.none c.put_in.ensures.count in
    omega (arith, put, c.join_at.ensures.count, c.join_at-2.ensures.count)

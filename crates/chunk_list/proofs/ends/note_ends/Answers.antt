use Rattle.std.proofs.Common.{arith, ap, ◌∙◌, ◌≡◌, ◌+◌, ◌<◌, ◌^◌, suc, length, take, refl, Some, slice_get}
use Rattle.std.proofs.lemmas.Option.{slice_get_read}
use Rattle.chunk_list.specs.Flat.{ends_from, flat}
use Rattle.chunk_list.proofs.FlatLaws.{chunk_within, flat_more}
use Rattle.chunk_list.proofs.EndLaws.{ends_more}
use Rattle.chunk_list.proofs.ends.note_ends.Goals as goal

pub overflow_add-end : goal.overflow_add-end
overflow_add-end g c =
    let cs = c.args.chunks.now.items in
    let i = c.loop-chunk.chunk-index in
    let all = c.deref-chunk-items.ensures.value in
    let found : slice_get cs i ≡ Some c.chunk-item.result = rw all at (slice_get_read c.deref-chunk-items.result.now (length c.deref-chunk-items.result.now) i c.chunk-item.result refl c.loop-chunk-test.true c.chunk-item.is) in
    let within = chunk_within cs i c.chunk-item.result found in
    let few : c.loop-chunk.end + c.len-end.result < 2 ^ 32 = omega (arith, c.loop-chunk.invariant.end, c.len-end.ensures.count, within, c.requires.few) in
    omega (arith, few)

pub loop-chunk-preserved : goal.loop-chunk-preserved
loop-chunk-preserved g c =
    let cs = c.args.chunks.now.items in
    let i = c.loop-chunk.chunk-index in
    let all = c.deref-chunk-items.ensures.value in
    let inv = c.loop-chunk.invariant in
    let found : slice_get cs i ≡ Some c.chunk-item.result = rw all at (slice_get_read c.deref-chunk-items.result.now (length c.deref-chunk-items.result.now) i c.chunk-item.result refl c.loop-chunk-test.true c.chunk-item.is) in
    let next : i + 1 ≡ suc i = omega arith in
    record {
      whole = ends_more cs c.loop-chunk.ends.items c.push_reserved.new.self.items (ends_from 0 cs) i (i + 1) c.loop-chunk.end c.len-end.result c.chunk-item.result found next c.len-end.ensures.count c.push_reserved.ensures.items inv.whole;
      end = omega (arith, inv.end, c.len-end.ensures.count, flat_more cs i c.chunk-item.result found, ap (λ n. length (flat (take n cs))) next);
      count = c.push_reserved.ensures.len ∙ ap (λ n. n + 1) inv.count;
      room = c.push_reserved.ensures.capacity ∙ inv.room;
    }

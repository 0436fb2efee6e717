use Rattle.std.proofs.Common.{arith, ap, ◌≡◌, ◌+◌, ◌<◌, ◌^◌, suc, drop, length, take, refl, Some, slice_get}
use Rattle.std.proofs.lemmas.Option.{slice_get_read}
use Rattle.chunk_list.specs.Flat.{even_of, flat}
use Rattle.chunk_list.proofs.FlatLaws.{chunk_within, flat_more}
use Rattle.chunk_list.proofs.EvenLaws.{even_here}
use Rattle.chunk_list.proofs.ends.even_count.Goals as goal

pub overflow_add-count : goal.overflow_add-count
overflow_add-count g c =
    let cs = c.args.chunks.now.items in
    let i = c.loop-chunk.chunk-index in
    let all = c.deref-chunk-items.ensures.value in
    let found : slice_get cs i ≡ Some c.chunk-item.result = rw all at (slice_get_read c.deref-chunk-items.result.now (length c.deref-chunk-items.result.now) i c.chunk-item.result refl c.loop-chunk-test.true c.chunk-item.is) in
    let few : c.loop-chunk.count + c.len-count.result < 2 ^ 32 = omega (arith, c.loop-chunk.invariant.within, c.len-count.ensures.count, chunk_within cs i c.chunk-item.result found, c.requires) in
    omega (arith, few)

pub loop-chunk-preserved : goal.loop-chunk-preserved
loop-chunk-preserved g c =
    let cs = c.args.chunks.now.items in
    let i = c.loop-chunk.chunk-index in
    let all = c.deref-chunk-items.ensures.value in
    let inv = c.loop-chunk.invariant in
    let found : slice_get cs i ≡ Some c.chunk-item.result = rw all at (slice_get_read c.deref-chunk-items.result.now (length c.deref-chunk-items.result.now) i c.chunk-item.result refl c.loop-chunk-test.true c.chunk-item.is) in
    let next : i + 1 ≡ suc i = omega arith in
    let full : length c.chunk-item.result ≡ 512 = omega (arith, c.len.ensures.count, c.len.ensures.few, c.if-len-lt-MOST.false) in
    record {
      whole = omega (arith, inv.whole, even_here cs i c.chunk-item.result found full, c.len-count.ensures.count, full, ap (λ n. even_of (drop n cs)) next);
      within = omega (arith, inv.within, c.len-count.ensures.count, flat_more cs i c.chunk-item.result found, ap (λ n. length (flat (take n cs))) next);
    }

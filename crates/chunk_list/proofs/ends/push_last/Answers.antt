use Rattle.std.proofs.Common.{arith, sym, ap, ◌∙◌, ◌≡◌, ◌<◌, ◌+◌, ◌*◌, ◌^◌, length}
use Rattle.chunk_list.specs.Flat.{flat}
use Rattle.chunk_list.proofs.EndLaws.{length-ends_from}
use Rattle.chunk_list.proofs.EvenLaws.{even_within}
use Rattle.chunk_list.proofs.PushLaws.{put_back, taken}
use Rattle.chunk_list.proofs.ends.push_last.Goals.{else-are_full-via-then-are_full+else-even-end, else-are_full-via-else-are_full}
use Rattle.chunk_list.proofs.ends.push_last.Goals as goal

pub take_last-end-requires : goal.take_last-end-requires
take_last-end-requires g c =
    let cs = c.args.chunks.now.items in
    omega (arith, c.args.ends.now.ok.0, ap length c.requires.ends, length-ends_from cs 0, c.requires.room.some)

pub overflow_sub-are_full : goal.overflow_sub-are_full
overflow_sub-are_full g c =
    let t = taken c.args.chunks.now.items c.take_last-chunk.new.self.items c.take_last-chunk.result c.args.ends.now.items c.take_last-end.new.self.items c.take_last-end.result c.requires.room c.requires.ends c.take_last-chunk.ensures.items c.take_last-end.ensures.items in
    omega (arith, t.end_is, c.len.ensures.count)

pub overflow_add-end : goal.overflow_add-end
overflow_add-end g c =
    let t = taken c.args.chunks.now.items c.take_last-chunk.new.self.items c.take_last-chunk.result c.args.ends.now.items c.take_last-end.new.self.items c.take_last-end.result c.requires.room c.requires.ends c.take_last-chunk.ensures.items c.take_last-end.ensures.items in
    let few : c.take_last-end.result + 1 < 2 ^ 32 = omega (arith, t.end_is, t.all, c.requires.few) in
    omega (arith, few)

pub overflow_add-result : goal.overflow_add-result
overflow_add-result g c =
    let few : c.args.even + 1 < 2 ^ 32 = omega (arith, c.requires.even, even_within c.args.chunks.now.items, c.requires.few) in
    omega (arith, few)

pub returns-then-even-end-clause-list : goal.returns-then-even-end-clause-list
returns-then-even-end-clause-list g c =
    let t = taken c.args.chunks.now.items c.take_last-chunk.new.self.items c.take_last-chunk.result c.args.ends.now.items c.take_last-end.new.self.items c.take_last-end.result c.requires.room c.requires.ends c.take_last-chunk.ensures.items c.take_last-end.ensures.items in
    let p = put_back c.args.chunks.now.items c.take_last-chunk.new.self.items c.take_last-chunk.result c.take_last-end.new.self.items c.take_last-end.result c.args.x c.push.new.self c.push_reserved.new.self.items c.push_reserved-2.new.self.items t c.take_last-chunk.ensures.items c.push.ensures c.push_reserved.ensures.items c.push_reserved-2.ensures.items in
    p.list

pub returns-then-even-end-clause-ends : goal.returns-then-even-end-clause-ends
returns-then-even-end-clause-ends g c =
    let t = taken c.args.chunks.now.items c.take_last-chunk.new.self.items c.take_last-chunk.result c.args.ends.now.items c.take_last-end.new.self.items c.take_last-end.result c.requires.room c.requires.ends c.take_last-chunk.ensures.items c.take_last-end.ensures.items in
    let p = put_back c.args.chunks.now.items c.take_last-chunk.new.self.items c.take_last-chunk.result c.take_last-end.new.self.items c.take_last-end.result c.args.x c.push.new.self c.push_reserved.new.self.items c.push_reserved-2.new.self.items t c.take_last-chunk.ensures.items c.push.ensures c.push_reserved.ensures.items c.push_reserved-2.ensures.items in
    p.ends_are

pub returns-then-even-end-clause-even : goal.returns-then-even-end-clause-even
returns-then-even-end-clause-even g c =
    let t = taken c.args.chunks.now.items c.take_last-chunk.new.self.items c.take_last-chunk.result c.args.ends.now.items c.take_last-end.new.self.items c.take_last-end.result c.requires.room c.requires.ends c.take_last-chunk.ensures.items c.take_last-end.ensures.items in
    let p = put_back c.args.chunks.now.items c.take_last-chunk.new.self.items c.take_last-chunk.result c.take_last-end.new.self.items c.take_last-end.result c.args.x c.push.new.self c.push_reserved.new.self.items c.push_reserved-2.new.self.items t c.take_last-chunk.ensures.items c.push.ensures c.push_reserved.ensures.items c.push_reserved-2.ensures.items in
    let front = c.take_last-chunk.new.self.items in
    let full : length (flat front) ≡ 512 * length front = omega (arith, c.if-are_full.true, t.end_is, c.len.ensures.count, t.all, c.requires.few, c.len-2.ensures, c.take_last-chunk.new.self.ok.0) in
    omega (arith, c.if-even-end.true, p.even full (omega (arith, c.requires.even, c.if-even-end.true)))

pub returns-else-are_full-clause-list : goal.returns-else-are_full-clause-list
returns-else-are_full-clause-list g c =
    let t = taken c.args.chunks.now.items c.take_last-chunk.new.self.items c.take_last-chunk.result c.args.ends.now.items c.take_last-end.new.self.items c.take_last-end.result c.requires.room c.requires.ends c.take_last-chunk.ensures.items c.take_last-end.ensures.items in
    let p = put_back c.args.chunks.now.items c.take_last-chunk.new.self.items c.take_last-chunk.result c.take_last-end.new.self.items c.take_last-end.result c.args.x c.push.new.self c.push_reserved.new.self.items c.push_reserved-2.new.self.items t c.take_last-chunk.ensures.items c.push.ensures c.push_reserved.ensures.items c.push_reserved-2.ensures.items in
    p.list

pub returns-else-are_full-clause-ends : goal.returns-else-are_full-clause-ends
returns-else-are_full-clause-ends g c =
    let t = taken c.args.chunks.now.items c.take_last-chunk.new.self.items c.take_last-chunk.result c.args.ends.now.items c.take_last-end.new.self.items c.take_last-end.result c.requires.room c.requires.ends c.take_last-chunk.ensures.items c.take_last-end.ensures.items in
    let p = put_back c.args.chunks.now.items c.take_last-chunk.new.self.items c.take_last-chunk.result c.take_last-end.new.self.items c.take_last-end.result c.args.x c.push.new.self c.push_reserved.new.self.items c.push_reserved-2.new.self.items t c.take_last-chunk.ensures.items c.push.ensures c.push_reserved.ensures.items c.push_reserved-2.ensures.items in
    p.ends_are

pub returns-else-are_full-clause-even : goal.returns-else-are_full-clause-even
returns-else-are_full-clause-even g c =
    let t = taken c.args.chunks.now.items c.take_last-chunk.new.self.items c.take_last-chunk.result c.args.ends.now.items c.take_last-end.new.self.items c.take_last-end.result c.requires.room c.requires.ends c.take_last-chunk.ensures.items c.take_last-end.ensures.items in
    let p = put_back c.args.chunks.now.items c.take_last-chunk.new.self.items c.take_last-chunk.result c.take_last-end.new.self.items c.take_last-end.result c.args.x c.push.new.self c.push_reserved.new.self.items c.push_reserved-2.new.self.items t c.take_last-chunk.ensures.items c.push.ensures c.push_reserved.ensures.items c.push_reserved-2.ensures.items in
    let front = c.take_last-chunk.new.self.items in
    c.requires.even ∙ sym (p.uneven (λ full is. elim c.else-are_full.branch [
      | else-are_full-via-then-are_full+else-even-end w ↦ w.if-even-end.false (omega (arith, c.requires.even, is))
      | else-are_full-via-else-are_full w ↦ w.if-are_full.false (omega (arith, full, t.end_is, c.len.ensures.count, t.all, c.requires.few, c.len-2.ensures, c.take_last-chunk.new.self.ok.0))
    ]))

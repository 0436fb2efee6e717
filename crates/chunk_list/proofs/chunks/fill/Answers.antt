use Rattle.std.proofs.Common.{arith, ap, sym, ◌∙◌, ◌≡◌, ◌∷◌, ◌++◌, List, [], suc, length, append_assoc, vec_len, drop}
use Rattle.std.specs.Vec.Iter.{into_iter_items, into_iter_len}
use Rattle.chunk_list.specs.Flat.{flat}
use Rattle.chunk_list.proofs.FillLaws.{filled_all, filled_more, nothing_left}
use Rattle.chunk_list.proofs.chunks.fill.Goals as goal

pub loop-x-preserved : goal.loop-x-preserved
loop-x-preserved g c =
    let inv = c.loop-x.invariant in
    let steps = c.in-Some.ensures.steps in
    let rest = into_iter_items c.next.new.self in
    let fewer : length (into_iter_items c.loop-x.x-iterator) ≡ suc (length rest) = ap length steps.0 in
    record {
      filled = filled_more c.args.chunks.now.items c.loop-x.chunks.items c.loop-x.chunk c.loop-x.yielded (vec_len c.loop-x.empty) (vec_len c.take_empty-chunk.new.empty) inv.filled
          c.in-Some.x c.put_one.new.chunks.items (vec_len c.put_one.new.empty) c.put_one.new.chunk c.put_one.ensures.put;
      room = c.put_one.ensures.room ∙ inv.room;
      to_come = append_assoc c.loop-x.yielded (c.in-Some.x ∷ []) rest ∙ ap (λ (l : List g.row.T.Denot). c.loop-x.yielded ++ l) (sym steps.0) ∙ inv.to_come;
      count = omega (arith, steps.1, inv.count, fewer);
    }

pub returns-clause-items : goal.returns-clause-items
returns-clause-items g c =
    let inv = c.loop-x.invariant in
    let old = c.args.chunks.now in
    let all = nothing_left c.loop-x.yielded (into_iter_items c.loop-x.x-iterator) c.args.new.items (into_iter_len c.loop-x.x-iterator) inv.to_come inv.count c.in-None.ensures.steps.0 in
    let last = filled_all old.items c.loop-x.chunks.items c.loop-x.chunk c.loop-x.yielded (vec_len c.loop-x.empty) (vec_len c.take_empty-chunk.new.empty) inv.filled c.push_reserved.new.self.items c.push_reserved.ensures.items in
    let count : vec_len old ≡ length old.items = old.ok.0 in
    ap (λ n. flat (drop n c.push_reserved.new.self.items)) count ∙ last.1 ∙ all

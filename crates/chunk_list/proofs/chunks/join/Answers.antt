use Rattle.std.proofs.Common.{arith, ◌<◌, length}
use Rattle.chunk_list.proofs.FlatLaws.{joined}
use Rattle.chunk_list.proofs.chunks.join.Goals as goal

pub returns-then-len-le-MOST-clause-same : goal.returns-then-len-le-MOST-clause-same
returns-then-len-le-MOST-clause-same g c =
    let cs = c.args.chunks.now.items in
    let count = c.args.chunks.now.ok.0 in
    let low : 0 < c.args.i = omega arith in
    let within : c.args.i < length cs = omega (arith, c.if-i-len.false, c.len.ensures, count) in
    joined cs c.remove-next.new.self.items c.args.i c.index_mut.result.now c.remove-next.result c.append.new.self
    low within c.remove-next.ensures.items c.index_mut.ensures.value c.remove-next.ensures.value c.append.ensures

use Rattle.std.proofs.Common.{arith, ap, sym, ◌∙◌, ◌/◌, ◌%◌, length, refl}
use Rattle.std.proofs.lemmas.Option.{slice_get_read}
use Rattle.std.specs.Prelude.{slice_get}
use Rattle.chunk_list.proofs.EvenLaws.{even_found}
use Rattle.chunk_list.proofs.list.ChunkList.get.Goals as goal

pub index-requires : goal.index-requires
index-requires g c =
    let e = even_found c.self.inside.chunks.items c.args.i (c.args.i / 512) (c.args.i % 512) (omega (arith, c.if-i-self.true, c.self.invariant.even_is)) (omega arith) (omega arith) in
    omega (arith, e.inside, c.self.inside.chunks.ok.0)

pub get-requires : goal.get-requires
get-requires g c =
    let cs = c.self.inside.chunks.items in
    let e = even_found cs c.args.i (c.args.i / 512) (c.args.i % 512) (omega (arith, c.if-i-self.true, c.self.invariant.even_is)) (omega arith) (omega arith) in
    (e.element c.index.result.now (slice_get_read cs (length cs) (c.args.i / 512) c.index.result.now refl e.inside c.index.ensures)).0

pub returns-then-i-self : goal.returns-then-i-self
returns-then-i-self g c =
    let cs = c.self.inside.chunks.items in
    let seen = ap (λ p. p.0) c.self.view_is in
    let e = even_found cs c.args.i (c.args.i / 512) (c.args.i % 512) (omega (arith, c.if-i-self.true, c.self.invariant.even_is)) (omega arith) (omega arith) in
    let there = slice_get_read cs (length cs) (c.args.i / 512) c.index.result.now refl e.inside c.index.ensures in
    c.get.ensures ∙ sym (e.element c.index.result.now there).1 ∙ ap (λ l. slice_get l c.args.i) seen

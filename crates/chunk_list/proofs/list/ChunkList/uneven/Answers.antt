use Rattle.std.proofs.Common.{arith, ap, sym, ◌∙◌, ◌<◌, ℕ, List, length}
use Rattle.std.specs.Prelude.{slice_get}
use Rattle.chunk_list.specs.Flat.{flat, start_in}
use Rattle.chunk_list.proofs.EndLaws.{found, last_holds, stand_of}
use Rattle.chunk_list.proofs.list.ChunkList.uneven.Goals as goal

pub chunk_of-chunk-requires-clause-some : goal.chunk_of-chunk-requires-clause-some
chunk_of-chunk-requires-clause-some g c =
    let seen = ap (λ p. p.0) c.self.view_is in
    let cs = c.self.inside.chunks.items in
    let within : c.args.i < length (flat cs) = omega (arith, ap length seen, c.requires) in
    (last_holds cs c.deref.result.now c.args.i (c.deref.ensures.value ∙ c.self.invariant.ends_are) within).0

pub chunk_of-chunk-requires-clause-inside : goal.chunk_of-chunk-requires-clause-inside
chunk_of-chunk-requires-clause-inside g c =
    let seen = ap (λ p. p.0) c.self.view_is in
    let cs = c.self.inside.chunks.items in
    let within : c.args.i < length (flat cs) = omega (arith, ap length seen, c.requires) in
    (last_holds cs c.deref.result.now c.args.i (c.deref.ensures.value ∙ c.self.invariant.ends_are) within).1

pub index-requires : goal.index-requires
index-requires g c =
    let cs = c.self.inside.chunks.items in
    let stand = stand_of cs c.deref.result.now c.args.i c.chunk_of-chunk.result (c.deref.ensures.value ∙ c.self.invariant.ends_are) c.chunk_of-chunk.ensures in
    omega (arith, stand.inside, c.self.inside.chunks.ok.0)

pub get-requires : goal.get-requires
get-requires g c =
    let cs = c.self.inside.chunks.items in
    let is = c.deref.ensures.value ∙ c.self.invariant.ends_are in
    let begins = c.start_of.ensures ∙ ap (λ (e : List ℕ). start_in e c.chunk_of-chunk.result) (c.deref-2.ensures.value ∙ sym c.deref.ensures.value) in
    (found cs c.deref.result.now c.args.i c.chunk_of-chunk.result c.start_of.result c.index.result.now is c.chunk_of-chunk.ensures begins c.index.ensures).within

pub returns : goal.returns
returns g c =
    let cs = c.self.inside.chunks.items in
    let seen = ap (λ p. p.0) c.self.view_is in
    let is = c.deref.ensures.value ∙ c.self.invariant.ends_are in
    let begins = c.start_of.ensures ∙ ap (λ (e : List ℕ). start_in e c.chunk_of-chunk.result) (c.deref-2.ensures.value ∙ sym c.deref.ensures.value) in
    let f = found cs c.deref.result.now c.args.i c.chunk_of-chunk.result c.start_of.result c.index.result.now is c.chunk_of-chunk.ensures begins c.index.ensures in
    c.get.ensures ∙ sym f.element ∙ ap (λ l. slice_get l c.args.i) seen

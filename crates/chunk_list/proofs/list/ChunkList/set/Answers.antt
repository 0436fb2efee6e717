use Rattle.std.proofs.Common.{arith, ap, sym, ◌∙◌, ◌<◌, ℕ, List, length, set, length-set}
use Rattle.chunk_list.specs.Flat.{flat, start_in}
use Rattle.chunk_list.proofs.EndLaws.{found, last_holds, stand_of}
use Rattle.chunk_list.proofs.SetLaws.{exchanged}
use Rattle.chunk_list.proofs.list.ChunkList.set.Goals as goal

pub chunk_of-chunk-requires-clause-some : goal.chunk_of-chunk-requires-clause-some
chunk_of-chunk-requires-clause-some g c =
    let seen = ap (λ p. p.0) c.self.view_is in
    let cs = c.self.inside.chunks.items in
    let within : c.args.i < length (flat cs) = omega (arith, ap length seen, c.requires) in
    (last_holds cs c.deref.result.now c.args.i (c.deref.ensures.value ∙ c.self.invariant.ends_are) within).0

pub chunk_of-chunk-requires-clause-inside : goal.chunk_of-chunk-requires-clause-inside
chunk_of-chunk-requires-clause-inside g c =
    let seen = ap (λ p. p.0) c.self.view_is in
    let cs = c.self.inside.chunks.items in
    let within : c.args.i < length (flat cs) = omega (arith, ap length seen, c.requires) in
    (last_holds cs c.deref.result.now c.args.i (c.deref.ensures.value ∙ c.self.invariant.ends_are) within).1

pub index_mut-requires : goal.index_mut-requires
index_mut-requires g c =
    let cs = c.self.inside.chunks.items in
    let stand = stand_of cs c.deref.result.now c.args.i c.chunk_of-chunk.result (c.deref.ensures.value ∙ c.self.invariant.ends_are) c.chunk_of-chunk.ensures in
    omega (arith, stand.inside, c.self.inside.chunks.ok.0)

pub set-requires : goal.set-requires
set-requires g c =
    let cs = c.self.inside.chunks.items in
    let is = c.deref.ensures.value ∙ c.self.invariant.ends_are in
    let begins = c.start_of-start.ensures ∙ ap (λ (e : List ℕ). start_in e c.chunk_of-chunk.result) (c.deref-2.ensures.value ∙ sym c.deref.ensures.value) in
    (found cs c.deref.result.now c.args.i c.chunk_of-chunk.result c.start_of-start.result c.index_mut.result.now is c.chunk_of-chunk.ensures begins c.index_mut.ensures.value).within

pub invariant_of-self : goal.invariant_of-self
invariant_of-self g c =
    let cs = c.self.inside.chunks.items in
    let inv = c.self.invariant in
    let is = c.deref.ensures.value ∙ inv.ends_are in
    let begins = c.start_of-start.ensures ∙ ap (λ (e : List ℕ). start_in e c.chunk_of-chunk.result) (c.deref-2.ensures.value ∙ sym c.deref.ensures.value) in
    let e = exchanged cs c.deref.result.now c.args.i c.chunk_of-chunk.result c.start_of-start.result c.index_mut.result.now c.set.new.self c.args.x is c.chunk_of-chunk.ensures begins c.index_mut.ensures.value c.set.ensures in
    record {
      ends_are = sym c.deref.ensures.value ∙ e.ends_are;
      even_is = inv.even_is ∙ sym e.even_is;
      few = omega (arith, ap length e.list, length-set (flat cs) c.args.i c.args.x, inv.few);
      spare_empty = inv.spare_empty;
      spare_chunks = inv.spare_chunks;
      spare_ends = inv.spare_ends;
    }

pub returns-clause-list : goal.returns-clause-list
returns-clause-list g c =
    let cs = c.self.inside.chunks.items in
    let seen = ap (λ p. p.0) c.self.view_is in
    let is = c.deref.ensures.value ∙ c.self.invariant.ends_are in
    let begins = c.start_of-start.ensures ∙ ap (λ (e : List ℕ). start_in e c.chunk_of-chunk.result) (c.deref-2.ensures.value ∙ sym c.deref.ensures.value) in
    let e = exchanged cs c.deref.result.now c.args.i c.chunk_of-chunk.result c.start_of-start.result c.index_mut.result.now c.set.new.self c.args.x is c.chunk_of-chunk.ensures begins c.index_mut.ensures.value c.set.ensures in
    e.list ∙ ap (λ l. set l c.args.i c.args.x) seen

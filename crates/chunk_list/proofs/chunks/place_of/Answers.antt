use Rattle.std.proofs.Common.{arith, ap, ◌∙◌, ◌≡◌, ◌+◌, ◌-◌, suc, length, take, Some, slice_get, refl}
use Rattle.std.proofs.lemmas.List.{take_all}
use Rattle.std.proofs.lemmas.Option.{slice_get_read, slice_get_within}
use Rattle.chunk_list.specs.Flat.{flat}
use Rattle.chunk_list.proofs.FlatLaws.{flat_more}
use Rattle.chunk_list.proofs.chunks.place_of.Goals as goal

pub loop-i-preserved : goal.loop-i-preserved
loop-i-preserved g c =
    let cs = c.args.chunks.now.items in
    let found = slice_get_read c.deref-chunk-items.result.now _ c.loop-i.i c.chunk-item.result refl c.loop-i-test.true c.chunk-item.is in
    let e : slice_get cs c.loop-i.i ≡ Some c.chunk-item.result = rw c.deref-chunk-items.ensures.value at found in
    let i1 : c.loop-i.i + 1 ≡ suc c.loop-i.i = omega arith in
    let m : length (flat (take (c.loop-i.i + 1) cs)) + (c.loop-i.left - c.len-here.result) ≡ c.args.at = rw i1 (omega (arith, flat_more cs c.loop-i.i c.chunk-item.result e, c.loop-i.invariant)) in
    m

pub returns : goal.returns
returns g c =
    let cs = c.args.chunks.now.items in
    let n : c.len.result ≡ length cs = c.len.ensures ∙ c.args.chunks.now.ok.0 in
    let all : take c.loop-i.i cs ≡ cs = take_all c.loop-i.i cs (omega (arith, ap length c.deref-chunk-items.ensures.value)) in
    let whole : take c.len.result cs ≡ cs = take_all c.len.result cs (omega arith) in
    record {
      inside = omega arith;
      place = omega (arith, ap (λ l. length (flat l)) all, ap (λ l. length (flat l)) whole, c.loop-i.invariant, c.requires);
      within_chunk = λ x h. absurd (omega (arith, slice_get_within cs c.len.result x h));
      at_end = λ _. refl;
    }

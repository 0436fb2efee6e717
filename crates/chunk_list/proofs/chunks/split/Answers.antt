use Rattle.std.proofs.Common.{arith, ap, ◌∙◌, ◌≡◌, ◌<◌, ◌+◌, ℕ, suc, length, take, drop, Some, slice_get, slice_set, insert, is_ok, true, refl}
use Rattle.std.proofs.lemmas.Option.{slice_get_read}
use Rattle.chunk_list.specs.Flat.{flat}
use Rattle.chunk_list.proofs.FlatLaws.{split_same, split_place, has_chunk, split_length}
use Rattle.chunk_list.proofs.chunks.split.Goals as goal

pub returns-clause-same : goal.returns-clause-same
returns-clause-same g c =
    let cs = c.args.chunks.now.items in
    let p = c.place_of-p.result in
    let old = c.index_mut.result.now in
    let lt : p.chunk < length cs = has_chunk p.chunk (length cs) p.within c.place_of-p.ensures.inside c.place_of-p.ensures.at_end c.if-p-eq0.false in
    let found : slice_get cs p.chunk ≡ Some old = slice_get_read cs _ p.chunk old refl lt c.index_mut.ensures.value in
    let ok : is_ok c.insert.result ≡ true = c.insert.ensures.succeeds (omega (arith, c.requires.room)) in
    let i1 : p.chunk + 1 ≡ suc p.chunk = omega arith in
    let put : c.insert.new.self.items ≡ insert (slice_set cs p.chunk c.move_tail.new.self) (p.chunk + 1) c.move_tail.new.to = rw ok at c.insert.ensures.items in
    let items : c.insert.new.self.items ≡ insert (slice_set cs p.chunk (take p.within old)) (suc p.chunk) (drop p.within old) =
    put ∙ ap (λ x. insert (slice_set cs p.chunk x) (p.chunk + 1) c.move_tail.new.to) c.move_tail.ensures.front ∙ ap (λ x. insert (slice_set cs p.chunk (take p.within old)) (p.chunk + 1) x) c.move_tail.ensures.back ∙ ap (λ (n : ℕ). insert (slice_set cs p.chunk (take p.within old)) n (drop p.within old)) i1 in
    ap flat items ∙ split_same cs p.chunk p.within old found

pub returns-clause-cut : goal.returns-clause-cut
returns-clause-cut g c =
    let cs = c.args.chunks.now.items in
    let p = c.place_of-p.result in
    let old = c.index_mut.result.now in
    let lt : p.chunk < length cs = has_chunk p.chunk (length cs) p.within c.place_of-p.ensures.inside c.place_of-p.ensures.at_end c.if-p-eq0.false in
    let found : slice_get cs p.chunk ≡ Some old = slice_get_read cs _ p.chunk old refl lt c.index_mut.ensures.value in
    let ok : is_ok c.insert.result ≡ true = c.insert.ensures.succeeds (omega (arith, c.requires.room)) in
    let i1 : p.chunk + 1 ≡ suc p.chunk = omega arith in
    let put : c.insert.new.self.items ≡ insert (slice_set cs p.chunk c.move_tail.new.self) (p.chunk + 1) c.move_tail.new.to = rw ok at c.insert.ensures.items in
    let items : c.insert.new.self.items ≡ insert (slice_set cs p.chunk (take p.within old)) (suc p.chunk) (drop p.within old) =
    put ∙ ap (λ x. insert (slice_set cs p.chunk x) (p.chunk + 1) c.move_tail.new.to) c.move_tail.ensures.front ∙ ap (λ x. insert (slice_set cs p.chunk (take p.within old)) (p.chunk + 1) x) c.move_tail.ensures.back ∙ ap (λ (n : ℕ). insert (slice_set cs p.chunk (take p.within old)) n (drop p.within old)) i1 in
    let w : p.within < length old = c.place_of-p.ensures.within_chunk old found in
    let e : length (flat (take (p.chunk + 1) c.insert.new.self.items)) ≡ length (flat (take p.chunk cs)) + p.within =
    ap (λ (n : ℕ). length (flat (take n c.insert.new.self.items))) i1 ∙ ap (λ l. length (flat (take (suc p.chunk) l))) items ∙ split_place cs p.chunk p.within old found (omega arith) in
    record {
      inside = omega (arith, ap length items, split_length cs p.chunk (take p.within old) (drop p.within old) lt, lt);
      place = e ∙ c.place_of-p.ensures.place;
    }

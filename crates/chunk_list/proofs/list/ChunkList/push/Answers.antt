use Rattle.std.proofs.Common.{arith, sym, ap, ◌∙◌, ◌≡◌, List, [], ◌∷◌, ◌++◌, length, subst}
use Rattle.std.proofs.lemmas.List.{length_push}
use Rattle.chunk_list.specs.Flat.{HasRoom, ends_from, even_of, flat}
use Rattle.chunk_list.proofs.PushLaws.{opened, opened_ends, opened_even, opened_flat}
use Rattle.chunk_list.proofs.list.ChunkList.push.Goals as goal

pub push_last-self-inside-requires-2-clause-room : goal.push_last-self-inside-requires-2-clause-room
push_last-self-inside-requires-2-clause-room g c =
    let X = g.row.T.Denot in
    let cs : List (List X) = c.self.inside.chunks.items in
    let is : c.push_reserved.new.self.items ≡ cs ++ [] ∷ [] = c.push_reserved.ensures.items ∙ ap (λ (l : List (List X)). l ++ c.in_ok-chunk.chunk ∷ []) c.in_ok-reserve.ensures.items ∙ ap (λ (l : List X). cs ++ l ∷ []) c.in_ok-chunk.ensures in
    subst (HasRoom {X = X}) (sym is) (opened cs)

pub push_last-self-inside-requires-2-clause-few : goal.push_last-self-inside-requires-2-clause-few
push_last-self-inside-requires-2-clause-few g c =
    let X = g.row.T.Denot in
    let cs : List (List X) = c.self.inside.chunks.items in
    let is : c.push_reserved.new.self.items ≡ cs ++ [] ∷ [] = c.push_reserved.ensures.items ∙ ap (λ (l : List (List X)). l ++ c.in_ok-chunk.chunk ∷ []) c.in_ok-reserve.ensures.items ∙ ap (λ (l : List X). cs ++ l ∷ []) c.in_ok-chunk.ensures in
    let same : flat c.push_reserved.new.self.items ≡ flat cs = ap flat is ∙ opened_flat cs in
    omega (arith, ap length same, ap length (ap (λ p. p.0) c.self.view_is), c.requires)

pub push_last-self-inside-requires-2-clause-ends : goal.push_last-self-inside-requires-2-clause-ends
push_last-self-inside-requires-2-clause-ends g c =
    let X = g.row.T.Denot in
    let cs : List (List X) = c.self.inside.chunks.items in
    let is : c.push_reserved.new.self.items ≡ cs ++ [] ∷ [] = c.push_reserved.ensures.items ∙ ap (λ (l : List (List X)). l ++ c.in_ok-chunk.chunk ∷ []) c.in_ok-reserve.ensures.items ∙ ap (λ (l : List X). cs ++ l ∷ []) c.in_ok-chunk.ensures in
    let count : c.len-end.result ≡ length (flat cs) = c.len-end.ensures.count ∙ ap (λ (l : List (List X)). length (flat l)) c.in_ok-reserve.ensures.items in
    c.push_reserved-2.ensures.items ∙ ap (λ l. l ++ c.len-end.result ∷ []) (c.in_ok-reserve-2.ensures.items ∙ c.self.invariant.ends_are) ∙ ap (λ n. ends_from 0 cs ++ n ∷ []) count ∙ sym (ap (ends_from 0) is ∙ opened_ends cs)

pub push_last-self-inside-requires-2-clause-even : goal.push_last-self-inside-requires-2-clause-even
push_last-self-inside-requires-2-clause-even g c =
    let X = g.row.T.Denot in
    let cs : List (List X) = c.self.inside.chunks.items in
    let is : c.push_reserved.new.self.items ≡ cs ++ [] ∷ [] = c.push_reserved.ensures.items ∙ ap (λ (l : List (List X)). l ++ c.in_ok-chunk.chunk ∷ []) c.in_ok-reserve.ensures.items ∙ ap (λ (l : List X). cs ++ l ∷ []) c.in_ok-chunk.ensures in
    c.self.invariant.even_is ∙ sym (ap even_of is ∙ opened_even cs)

pub invariant_of-self-3 : goal.invariant_of-self-3
invariant_of-self-3 g c =
    let X = g.row.T.Denot in
    let cs : List (List X) = c.self.inside.chunks.items in
    let is : c.push_reserved.new.self.items ≡ cs ++ [] ∷ [] = c.push_reserved.ensures.items ∙ ap (λ (l : List (List X)). l ++ c.in_ok-chunk.chunk ∷ []) c.in_ok-reserve.ensures.items ∙ ap (λ (l : List X). cs ++ l ∷ []) c.in_ok-chunk.ensures in
    let same : flat c.push_reserved.new.self.items ≡ flat cs = ap flat is ∙ opened_flat cs in
    let all = c.push_last-self-inside-2.ensures.list ∙ ap (λ l. l ++ c.args.x ∷ []) same in
    record {
      ends_are = c.push_last-self-inside-2.ensures.ends;
      even_is = c.push_last-self-inside-2.ensures.even;
      few = omega (arith, ap length all, length_push (flat cs) c.args.x, ap length (ap (λ p. p.0) c.self.view_is), c.requires);
      spare_empty = omega arith;
      spare_chunks = omega arith;
      spare_ends = omega arith;
    }

pub returns-clause-list : goal.returns-clause-list
returns-clause-list g c =
    let X = g.row.T.Denot in
    let cs : List (List X) = c.self.inside.chunks.items in
    let is : c.push_reserved.new.self.items ≡ cs ++ [] ∷ [] = c.push_reserved.ensures.items ∙ ap (λ (l : List (List X)). l ++ c.in_ok-chunk.chunk ∷ []) c.in_ok-reserve.ensures.items ∙ ap (λ (l : List X). cs ++ l ∷ []) c.in_ok-chunk.ensures in
    let same : flat c.push_reserved.new.self.items ≡ flat cs = ap flat is ∙ opened_flat cs in
    c.push_last-self-inside-2.ensures.list ∙ ap (λ l. l ++ c.args.x ∷ []) same ∙ ap (λ p. p.0 ++ c.args.x ∷ []) c.self.view_is

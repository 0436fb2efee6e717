use Rattle.std.proofs.Common.{ap, ◌∙◌, ◌-◌, ◌++◌, List, ℕ, take, drop}
use Rattle.chunk_list.proofs.CutLaws.{put_at_cut}
use Rattle.chunk_list.proofs.chunks.put_in.Goals as goal

pub returns-clause-items : goal.returns-clause-items
returns-clause-items g c =
    let cs = c.split-before.new.chunks in
    let count = cs.ok.0 in
    let same = c.split-before.ensures.same in
    let len = c.len.ensures in
    let at = c.args.at in
    let before = c.split-before.result in
    let filled = c.fill.new.chunks.items in
    let turned = c.turn.ensures.items ∙ ap (λ (n : ℕ). take before filled ++ (drop (n - before) (drop before filled) ++ take (n - before) (drop before filled))) len in
    put_at_cut cs.items c.args.new.items filled c.turn.new.items.items before _ at c.split-before.ensures.cut count c.fill.ensures.behind c.fill.ensures.items turned
    ∙ ap (λ (l : List g.row.T.Denot). take at l ++ c.args.new.items ++ drop at l) same

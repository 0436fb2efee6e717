use Rattle.std.proofs.Common.{arith, ◌≡◌, ◌<◌, ◌≤◌, ◌∙◌, ap, length, get_or, List}
use Rattle.paint_reuse.specs.Kept.{KeptNote}
use Rattle.state_cache.proofs.ReachLaws.{reaches_all, reaches_further}
use Rattle.state_cache.proofs.reach.reach_of.Goals as goal

pub loop-note-preserved : goal.loop-note-preserved
loop-note-preserved c =
    let xs = c.args.notes.now in
    let i = c.loop-note.note-index in
    let same = c.as_slice-note-items.ensures in
    let on : i < length xs = omega (arith, c.loop-note-test.true, ap length same) in
    let is : c.note-item.result ≡ get_or xs i c.note-item.result = c.note-item.is ∙ ap (λ (l : List KeptNote). get_or l i c.note-item.result) same in
    let next = reaches_further (λ (n : KeptNote). n.looked) xs i c.note-item.result c.args.reach c.loop-note.all c.looked.result c.join-all.result on is c.looked.ensures c.join-all.ensures c.loop-note.invariant.grows c.loop-note.invariant.notes in
    record { grows = next.0; notes = next.1 }

pub returns-clause-notes : goal.returns-clause-notes
returns-clause-notes c =
    let same = c.as_slice-note-items.ensures in
    let past : length c.args.notes.now ≤ c.loop-note.note-index = omega (arith, c.loop-note-test.false, ap length same) in
    reaches_all (λ (n : KeptNote). n.looked) c.args.notes.now c.loop-note.note-index c.loop-note.all past c.loop-note.invariant.notes

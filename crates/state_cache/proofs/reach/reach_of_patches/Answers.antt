use Rattle.std.proofs.Common.{arith, ◌≡◌, ◌<◌, ◌≤◌, ◌∙◌, ap, length, get_or, List}
use Rattle.state_cache.specs.declared.edit.Patch.{Patch}
use Rattle.state_cache.proofs.ReachLaws.{reaches_all, reaches_further}
use Rattle.state_cache.proofs.reach.reach_of_patches.Goals as goal

pub loop-patch-preserved : goal.loop-patch-preserved
loop-patch-preserved c =
    let xs = c.args.patches.now in
    let i = c.loop-patch.patch-index in
    let same = c.as_slice-patch-items.ensures in
    let on : i < length xs = omega (arith, c.loop-patch-test.true, ap length same) in
    let is : c.patch-item.result ≡ get_or xs i c.patch-item.result = c.patch-item.is ∙ ap (λ (l : List Patch). get_or l i c.patch-item.result) same in
    let next = reaches_further (λ (p : Patch). (p.note).looked) xs i c.patch-item.result c.args.reach c.loop-patch.all c.looked.result c.join-all.result on is c.looked.ensures c.join-all.ensures c.loop-patch.invariant.grows c.loop-patch.invariant.notes in
    record { grows = next.0; notes = next.1 }

pub returns-clause-notes : goal.returns-clause-notes
returns-clause-notes c =
    let same = c.as_slice-patch-items.ensures in
    let past : length c.args.patches.now ≤ c.loop-patch.patch-index = omega (arith, c.loop-patch-test.false, ap length same) in
    reaches_all (λ (p : Patch). (p.note).looked) c.args.patches.now c.loop-patch.patch-index c.loop-patch.all past c.loop-patch.invariant.notes

use Rattle.std.proofs.Common.{arith, sym, ◌≡◌, ◌<◌, ◌≤◌, length, get_or, List}
use Rattle.std.proofs.lemmas.Option.{get_or_from_slice_get}
use Rattle.paint_reuse.specs.Kept.{KeptNote}
use Rattle.state_cache.proofs.ReachLaws.{reaches_all, reaches_further, within_self}
use Rattle.state_cache.proofs.reach.reach_of_text.Goals as goal

pub loop-line-preserved : goal.loop-line-preserved
loop-line-preserved c =
    let xs : List KeptNote = c.args.notes.now.0 in
    let i = c.loop-line.line in
    let note = c.get.result.now in
    let on : i < length xs = omega (arith, c.loop-line-test.true, c.len-line-end.ensures.count) in
    let is : note ≡ get_or xs i note = sym (get_or_from_slice_get xs i note note (sym c.get.ensures)) in
    (reaches_further (λ (n : KeptNote). n.looked) xs i note c.loop-line.all c.loop-line.all c.looked.result c.join-all.result on is c.looked.ensures c.join-all.ensures (within_self c.loop-line.all) c.loop-line.invariant).1

pub returns : goal.returns
returns c =
    let xs : List KeptNote = c.args.notes.now.0 in
    let past : length xs ≤ c.loop-line.line = omega (arith, c.loop-line-test.false, c.len-line-end.ensures.count) in
    reaches_all (λ (n : KeptNote). n.looked) xs c.loop-line.line c.loop-line.all past c.loop-line.invariant

use Rattle.std.proofs.Common.{arith, sym, ap, ◌∙◌, List, set}
use Rattle.std.proofs.lemmas.List.{set_past}
use Rattle.paint_reuse.specs.Kept.{KeptNote}
use Rattle.state_cache.proofs.PatchLaws.{patched_push}
use Rattle.state_cache.proofs.commit.put_patches.Goals as goal

pub loop-patch-preserved-then-patch-len : goal.loop-patch-preserved-then-patch-len
loop-patch-preserved-then-patch-len c =
    let p = c.in-Some.patch in
    record {
      notes = c.set.ensures.list ∙ ap (λ (l : List KeptNote). set l p.line p.note) c.loop-patch.invariant.notes ∙ sym (patched_push c.args.notes.now.0 c.loop-patch.yielded p);
      spare = c.set.ensures.spare ∙ c.loop-patch.invariant.spare;
    }

pub loop-patch-preserved-else-patch-len : goal.loop-patch-preserved-else-patch-len
loop-patch-preserved-else-patch-len c =
    let p = c.in-Some.patch in
    record {
      notes = sym (set_past c.loop-patch.notes.0 p.line p.note (omega arith)) ∙ ap (λ (l : List KeptNote). set l p.line p.note) c.loop-patch.invariant.notes ∙ sym (patched_push c.args.notes.now.0 c.loop-patch.yielded p);
      spare = c.loop-patch.invariant.spare;
    }

pub loop-patch-preserved : goal.loop-patch-preserved
loop-patch-preserved c =
    let p = c.in-Some.patch in
    record {
      notes = sym (set_past c.loop-patch.notes.0 p.line p.note (omega arith)) ∙ ap (λ (l : List KeptNote). set l p.line p.note) c.loop-patch.invariant.notes ∙ sym (patched_push c.args.notes.now.0 c.loop-patch.yielded p);
      spare = c.loop-patch.invariant.spare;
    }

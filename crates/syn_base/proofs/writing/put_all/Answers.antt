use Rattle.std.proofs.Common.{◌∙◌, arith}
use Rattle.std.proofs.lemmas.Grind.{common_steps}
use Rattle.syn_base.proofs.OutsideLaws.{appended-further}
use Rattle.syn_base.proofs.writing.put_all.Goals as goal

pub loop-done-preserved : goal.loop-done-preserved
loop-done-preserved g c =
    let put = c.in-Bytes.ensures.answer in
    record {
      within = grind (arith, common_steps);
      so_far = appended-further _ _ _ _ _ _ c.loop-done.invariant.so_far put.2;
      unfailed = c.in-Bytes.ensures.faults ∙ c.loop-done.invariant.unfailed;
    }

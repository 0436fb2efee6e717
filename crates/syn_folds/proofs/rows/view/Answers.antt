use Rattle.std.proofs.Common.{◌≡◌, ◌≤◌, ◌∙◌, arith, length}
use Rattle.syn_folds.specs.View.{view_of}
use Rattle.syn_folds.proofs.RunLaws.{at_end}
use Rattle.syn_folds.proofs.rows.view.Goals as goal

pub returns : goal.returns
returns c =
    let at : c.loop-line.line ≡ length c.args.levels.now = omega arith in
    let past : length c.args.levels.now ≤ c.loop-line.line = omega arith in
    c.in_ok-push_run-2.ensures
    ∙ at_end c.args.close c.loop-line.first c.loop-line.line (length c.args.levels.now) c.args.levels.now c.loop-line.rows
    (view_of c.args.close c.args.levels.now) past at c.loop-line.invariant.first c.loop-line.invariant.all

use Rattle.vimsyn_cli.proofs.FoldLaws.{dashes_further}
use Rattle.vimsyn_cli.proofs.folds.push_dashes.Goals as goal

pub loop-dash-preserved : goal.loop-dash-preserved
loop-dash-preserved c =
    dashes_further c.loop-dash.out.items _ c.args.out.now.items c.loop-dash._dash c.in_ok-push_bytes.ensures c.loop-dash.invariant

use Rattle.std.proofs.Common.{add-one, arith}
use Rattle.std.proofs.lemmas.Result.{err_from_is_err_and}
use Rattle.syn_reader.proofs.MatchingLaws.{one_tried, one_refused}
use Rattle.syn_reader.proofs.names_pattern.matching_whole.Goals as goal

pub returns-in_err-found : goal.returns-in_err-found
returns-in_err-found c =
    let whole = c.args.trial.now.whole in
    let groups = c.args.groups.now in
    let p = err_from_is_err_and c.from_residual.result c.from_residual.ensures.1 in
    rw (p.1, p.2) (one_refused whole c.loop-number.found groups c.loop-number.number _ c.in_err-found.field-0.0 (omega arith) c.loop-number.invariant c.in_err-found.ensures)

pub loop-number-preserved : goal.loop-number-preserved
loop-number-preserved c =
    rw add-one (one_tried c.args.trial.now.whole c.loop-number.found c.in_ok-found.found c.args.groups.now c.loop-number.number _ (omega arith)
    c.loop-number.invariant c.in_ok-found.ensures)

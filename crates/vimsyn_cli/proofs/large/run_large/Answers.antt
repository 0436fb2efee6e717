use Rattle.std.proofs.Common.{◌≤◌, arith}
use Rattle.vimsyn_cli.proofs.LargeLaws.{large_delivered}
use Rattle.vimsyn_cli.proofs.large.run_large.Goals as goal

pub returns-clause-runs : goal.returns-clause-runs
returns-clause-runs g c =
    let is = c.lines-lines.ensures.is in
    let least = c.lines-lines.ensures.some in
    let most = c.lines-lines.ensures.few in
    let some : 1 ≤ c.args.words.now.lines = omega arith in
    let few : c.args.words.now.lines ≤ 100000 = omega arith in
    large_delivered c.args.words.now c.large-outcome.result
    (record { before = g.O.Sink.written c.args.out.now; after = g.O.Sink.written c.deliver_large.new.out; faults = g.O.Sink.faults c.args.out.now; faults_after = g.O.Sink.faults c.deliver_large.new.out })
    (record { before = g.E.Sink.written c.args.err.now; after = g.E.Sink.written c.deliver_large.new.err; faults = g.E.Sink.faults c.args.err.now; faults_after = g.E.Sink.faults c.deliver_large.new.err })
    c.deliver_large.result some few c.large-outcome.ensures.is c.deliver_large.ensures

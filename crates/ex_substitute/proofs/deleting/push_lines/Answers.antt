use Rattle.std.proofs.Common.{◌≡◌, ◌-◌, ◌++◌, take, drop, ap, ◌∙◌, arith}
use Rattle.ex_substitute.proofs.DeleteLaws.{pushed}
use Rattle.ex_substitute.proofs.deleting.push_lines.Goals as goal

pub loop-line-preserved : goal.loop-line-preserved
loop-line-preserved g c = record {
  put = pushed c.args.new.now (g.T.Lines.lines c.args.lines.now) c.loop-line.new _ c.args.from c.loop-line.line c.in_ok-copy.copy c.line.result.now
      c.loop-line.auto.line (omega arith) c.loop-line.invariant.put c.in_ok-push.ensures.ok c.in_ok-copy.ensures c.line.ensures;
  within = omega arith;
}

pub returns : goal.returns
returns g c =
    let e : c.loop-line.line - c.args.from ≡ c.args.to - c.args.from = omega arith in
    c.loop-line.invariant.put ∙ ap (λ n. c.args.new.now ++ take n (drop c.args.from (g.T.Lines.lines c.args.lines.now))) e

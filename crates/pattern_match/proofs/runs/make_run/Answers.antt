use Rattle.std.proofs.Common.{◌≡◌, ◌+◌, ◌≤◌, ap, ◌∙◌, arith, rules}
use Rattle.std.specs.Prelude.{pos}
use Rattle.syn_base.specs.Looked.{one_line}
use Rattle.pattern_match.specs.Spending.{spent_times}
use Rattle.match_rules.specs.Ways.{Context as AnyContext}
use Rattle.pattern_match.specs.Contexts.{context_in}
use Rattle.pattern_match.specs.Steps.{atom_of}
use Rattle.pattern_match.proofs.RunLaws.{no_run, has_run}
use Rattle.pattern_match.proofs.runs.make_run.Goals as goal

pub returns-then-count-eq0 : goal.returns-then-count-eq0
returns-then-count-eq0 g c =
    let x : AnyContext = context_in (g.T.Lines.lines c.args.lines.now) c.args.context.now in
    no_run x (atom_of c.args.test.now) c.args.most c.args.ways.now c.args.spent.now c.requires.on_text c.requires.within

pub returns : goal.returns
returns g c =
    let x : AnyContext = context_in (g.T.Lines.lines c.args.lines.now) c.args.context.now in
    let count = c.run_length-count in
    let low : c.args.spent.now.cost + count.result ≤ c.args.spent.now.budget = omega arith in
    let looked : c.one.result ≡ one_line (pos c.place-at.result.line) = search rules in
    has_run x (atom_of c.args.test.now) c.args.most c.less_by.result c.args.ways.now c.put_run_aside.new.self c.args.spent.now c.tick_times.new.self count.result c.place-at.result
    c.place-at.ensures count.ensures.run count.ensures.allowed low c.less_by.ensures c.in_ok-put_run_aside.ensures
    (c.tick_times.ensures ∙ ap (spent_times c.args.spent.now count.result) looked)

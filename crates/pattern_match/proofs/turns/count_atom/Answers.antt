use Rattle.std.proofs.Common.{arith}
use Rattle.match_rules.specs.Ways.{Context as AnyContext}
use Rattle.pattern_match.specs.Contexts.{context_in}
use Rattle.pattern_match.proofs.Ticking.{no_turn-passed, no_turn-over}
use Rattle.pattern_match.proofs.turns.count_atom.Goals as goal

pub returns-then-spent : goal.returns-then-spent
returns-then-spent g c =
    let x : AnyContext = context_in (g.T.Lines.lines c.args.lines.now) c.args.context.now in
    no_turn-over x c.args.turns c.args.ways.now c.requires.numbers c.requires.on_text c.requires.allowed c.requires.free c.requires.greedy c.in-Some.looked c.in-Some.ensures c.args.spent.now
    (omega arith)

pub returns : goal.returns
returns g c =
    let x : AnyContext = context_in (g.T.Lines.lines c.args.lines.now) c.args.context.now in
    no_turn-passed x c.args.turns c.args.ways.now c.requires.numbers c.requires.on_text c.requires.allowed c.requires.free c.requires.greedy c.in-Some.looked c.in-Some.ensures
    c.args.spent.now c.tick.new.self c.tick.ensures (omega arith)

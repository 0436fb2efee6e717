use Rattle.std.proofs.Common.{refl, arith}
use Rattle.vim_pattern.specs.Shape.{or}
use Rattle.match_rules.specs.Ways.{Context as AnyContext}
use Rattle.pattern_match.specs.Contexts.{context_in}
use Rattle.pattern_match.specs.Steps.{shape_of}
use Rattle.pattern_match.proofs.Ticking.{either_passed, either_over}
use Rattle.pattern_match.proofs.Visiting.{follow_or}
use Rattle.pattern_match.proofs.parts.follow_either.Goals as goal

pub returns-in_default : goal.returns-in_default
returns-in_default g c =
    let x : AnyContext = context_in (g.T.Lines.lines c.args.lines.now) c.args.context.now in
    follow_or x (or (shape_of c.args.first.now) (shape_of c.args.second.now)) c.args.ways.now c.put_aside_with.new.ways c.args.spent.now c.requires.numbers c.requires.within c.args.first c.args.second
    refl c.in_ok-put_aside_with.ensures

pub returns-then-spent : goal.returns-then-spent
returns-then-spent g c =
    let x : AnyContext = context_in (g.T.Lines.lines c.args.lines.now) c.args.context.now in
    either_over x c.args.first c.args.second c.args.ways.now c.in-Some.looked c.in-Some.ensures c.args.spent.now (omega arith)

pub returns : goal.returns
returns g c =
    let x : AnyContext = context_in (g.T.Lines.lines c.args.lines.now) c.args.context.now in
    either_passed x c.args.first c.args.second c.args.ways.now c.in-Some.looked c.in-Some.ensures c.args.spent.now c.requires.numbers.1 c.tick.new.self c.tick.ensures (omega arith)

use Rattle.std.proofs.Common.{refl, arith}
use Rattle.vim_pattern.specs.Shape.{empty, or}
use Rattle.match_rules.specs.Ways.{Context as AnyContext}
use Rattle.pattern_match.specs.Contexts.{context_in}
use Rattle.pattern_match.specs.Steps.{shape_of}
use Rattle.pattern_match.proofs.Ticking.{optional_passed, optional_over}
use Rattle.pattern_match.proofs.Visiting.{follow_or_empty}
use Rattle.pattern_match.proofs.parts.follow_optional.Goals as goal

pub returns-in_default : goal.returns-in_default
returns-in_default g c =
    let x : AnyContext = context_in (g.T.Lines.lines c.args.lines.now) c.args.context.now in
    follow_or_empty x (or (shape_of c.args.part.now) empty) c.args.ways.now c.put_aside.new.self
    c.args.spent.now (c.requires.numbers, tt) c.requires.within c.args.part refl
    c.in_ok-put_aside.ensures

pub returns-then-spent : goal.returns-then-spent
returns-then-spent g c =
    let x : AnyContext = context_in (g.T.Lines.lines c.args.lines.now) c.args.context.now in
    optional_over x c.args.part c.args.ways.now c.in-Some.looked c.in-Some.ensures c.args.spent.now
    (omega arith)

pub returns : goal.returns
returns g c =
    let x : AnyContext = context_in (g.T.Lines.lines c.args.lines.now) c.args.context.now in
    optional_passed x c.args.part c.args.ways.now c.in-Some.looked c.in-Some.ensures
    c.args.spent.now c.tick.new.self c.tick.ensures (omega arith)

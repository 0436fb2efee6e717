use Rattle.std.proofs.Common.{◌+◌, rules, arith, sym, subst}
use Rattle.std.proofs.lemmas.Result.{IfOk-weaker}
use Rattle.match_rules.specs.Ways.{Context as AnyContext}
use Rattle.pattern_match.specs.Contexts.{context_in}
use Rattle.pattern_match.specs.Steps.{shape_of}
use Rattle.pattern_match.specs.Heights.{height}
use Rattle.pattern_match.specs.Search.{IsStep}
use Rattle.pattern_match.proofs.Counting.{count_spent, count_forced, count_lazy, count_greedy}
use Rattle.pattern_match.proofs.turns.count.Goals as goal

pub returns-then-is_spent : goal.returns-then-is_spent
returns-then-is_spent g c =
    let x : AnyContext = context_in (g.T.Lines.lines c.args.lines.now) c.args.context.now in
    count_spent x c.args.turns c.args.ways.now c.requires.numbers c.requires.on_text c.args.spent.now c.requires.within (search rules)

pub returns-then-turns-gt0 : goal.returns-then-turns-gt0
returns-then-turns-gt0 g c =
    let x : AnyContext = context_in (g.T.Lines.lines c.args.lines.now) c.args.context.now in
    IfOk-weaker c.turn.result _ _
    (λ went step. subst (λ marks. IsStep x (height (shape_of c.args.turns.part.now) + 1) marks c.args.ways.now c.turn.new.ways c.args.spent.now c.turn.new.spent went) (sym (count_forced x c.args.turns c.args.ways.now c.requires.numbers c.requires.on_text (search rules) (omega arith))) step)
    c.turn.ensures

pub returns-in_ok-put_aside_with : goal.returns-in_ok-put_aside_with
returns-in_ok-put_aside_with g c =
    let x : AnyContext = context_in (g.T.Lines.lines c.args.lines.now) c.args.context.now in
    count_lazy x c.args.turns c.args.ways.now c.requires.numbers c.requires.on_text c.put_aside_with.new.ways c.args.spent.now c.requires.within (search rules) (omega arith) (search rules) c.in_ok-put_aside_with.ensures

pub returns-in_ok-put_aside : goal.returns-in_ok-put_aside
returns-in_ok-put_aside g c =
    let x : AnyContext = context_in (g.T.Lines.lines c.args.lines.now) c.args.context.now in
    IfOk-weaker c.turn-in_default.result _ _
    (λ went step. count_greedy x c.args.turns c.args.ways.now c.requires.numbers c.requires.on_text c.put_aside.new.self c.turn-in_default.new.ways c.args.spent.now c.turn-in_default.new.spent went (search rules) (omega arith) (search rules) c.in_ok-put_aside.ensures step)
    c.turn-in_default.ensures

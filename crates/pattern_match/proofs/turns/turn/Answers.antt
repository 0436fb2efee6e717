use Rattle.std.proofs.Common.{◌≡◌, ◌+◌, refl}
use Rattle.vim_pattern.specs.Shape.{one}
use Rattle.match_rules.specs.Ways.{Context as AnyContext}
use Rattle.pattern_match.specs.declared.task.Went.TheVariants.{GoesOn}
use Rattle.pattern_match.specs.Contexts.{context_in}
use Rattle.pattern_match.specs.Steps.{shape_of, atom_of}
use Rattle.pattern_match.specs.Heights.{height}
use Rattle.pattern_match.specs.Search.{IsTick}
use Rattle.pattern_match.proofs.Leading.{silent}
use Rattle.pattern_match.proofs.Counting.{push_turn}
use Rattle.pattern_match.proofs.Stepping.{turn_taken, turn_over}
use Rattle.pattern_match.proofs.turns.turn.Goals as goal

pub returns-in_ok-put_first-in_default : goal.returns-in_ok-put_first-in_default
returns-in_ok-put_first-in_default g c =
    silent _ _ _ _ _ _ _ c.requires.within
    (push_turn (context_in (g.T.Lines.lines c.args.lines.now) c.args.context.now) c.args.turns c.args.ways.now c.requires.numbers c.put_first.new.self c.place-from.result c.place-from.ensures c.in_ok-put_first-in_default.ensures)

pub returns-in-GoesOn : goal.returns-in-GoesOn
returns-in-GoesOn g c =
    let x : AnyContext = context_in (g.T.Lines.lines c.args.lines.now) c.args.context.now in
    let k : shape_of c.args.turns.part.now ≡ one (atom_of c.in-One.test) = rw c.in-One.is refl in
    let t : IsTick x (atom_of c.in-One.test) c.args.ways.now c.tick.new.ways c.args.spent.now c.tick.new.spent GoesOn = rw c.in-GoesOn.is at c.in_ok-went-in-One.ensures in
    turn_taken x (atom_of c.in-One.test) c.args.ways.now c.tick.new.ways c.args.spent.now c.tick.new.spent (height (shape_of c.args.turns.part.now) + 1) c.args.turns k
    c.place-from.result c.after_turn.result c.place-from.ensures t c.after_turn.ensures.led (c.after_turn.ensures.leads x)

pub returns-in_default-2 : goal.returns-in_default-2
returns-in_default-2 g c =
    let x : AnyContext = context_in (g.T.Lines.lines c.args.lines.now) c.args.context.now in
    let k : shape_of c.args.turns.part.now ≡ one (atom_of c.in-One.test) = rw c.in-One.is refl in
    turn_over x (atom_of c.in-One.test) c.args.ways.now c.tick.new.ways c.args.spent.now c.tick.new.spent (height (shape_of c.args.turns.part.now) + 1) c.args.turns k
    c.in_ok-went-in-One.went c.in_ok-went-in-One.ensures c.in_default-2.not-GoesOn

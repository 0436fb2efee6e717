use Rattle.std.proofs.Common.{◌≡◌, refl}
use Rattle.vim_pattern.specs.Shape.{one, seq}
use Rattle.match_rules.specs.Ways.{Context as AnyContext}
use Rattle.pattern_match.specs.Contexts.{context_in}
use Rattle.pattern_match.specs.Steps.{shape_of, atom_of}
use Rattle.pattern_match.specs.declared.task.Went.TheVariants.{GoesOn}
use Rattle.pattern_match.specs.Search.{IsTick}
use Rattle.pattern_match.proofs.Ticking.{both_ticked, both_over}
use Rattle.pattern_match.proofs.Visiting.{follow_seq}
use Rattle.pattern_match.proofs.parts.follow_both.Goals as goal

pub returns-in-GoesOn : goal.returns-in-GoesOn
returns-in-GoesOn g c =
    let x : AnyContext = context_in (g.T.Lines.lines c.args.lines.now) c.args.context.now in
    let k : shape_of c.args.first.now ≡ one (atom_of c.in-One.test) = rw c.in-One.is refl in
    let t : IsTick x (atom_of c.in-One.test) c.args.ways.now c.tick.new.ways c.args.spent.now c.tick.new.spent GoesOn = rw c.in-GoesOn.is at c.in_ok-went-in-One.ensures in
    both_ticked x c.args.first c.args.second c.args.ways.now (atom_of c.in-One.test) k c.tick.new.ways c.args.spent.now c.tick.new.spent c.requires.numbers.1 t

pub returns-in_default-2 : goal.returns-in_default-2
returns-in_default-2 g c =
    let x : AnyContext = context_in (g.T.Lines.lines c.args.lines.now) c.args.context.now in
    let k : shape_of c.args.first.now ≡ one (atom_of c.in-One.test) = rw c.in-One.is refl in
    both_over x c.args.first c.args.second c.args.ways.now (atom_of c.in-One.test) k c.tick.new.ways c.args.spent.now c.tick.new.spent
    c.in_ok-went-in-One.went c.in_ok-went-in-One.ensures c.in_default-2.not-GoesOn

pub returns-in_ok-put_first-in_default : goal.returns-in_ok-put_first-in_default
returns-in_ok-put_first-in_default g c =
    let x : AnyContext = context_in (g.T.Lines.lines c.args.lines.now) c.args.context.now in
    follow_seq x (seq (shape_of c.args.first.now) (shape_of c.args.second.now)) c.args.ways.now c.put_first.new.self c.args.spent.now c.requires.numbers c.requires.within c.args.first c.args.second
    refl c.in_ok-put_first-in_default.ensures

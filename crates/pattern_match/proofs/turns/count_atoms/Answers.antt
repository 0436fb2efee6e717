use Rattle.std.proofs.Common.{rules, ◌≡◌, ◌∙◌, refl, false, true}
use Rattle.match_rules.specs.Ways.{Context as AnyContext, is_after}
use Rattle.match_rules.specs.Counts.{is_spent}
use Rattle.pattern_match.specs.Contexts.{context_in}
use Rattle.pattern_match.specs.Steps.{atom_of}
use Rattle.pattern_match.specs.declared.task.Went.TheVariants.{GoesOn}
use Rattle.pattern_match.specs.Search.{IsTick}
use Rattle.pattern_match.proofs.Ticking.{counting_spent, counting_over, counting_dropped, counting_on}
use Rattle.pattern_match.proofs.RunLaws.{counting_run}
use Rattle.pattern_match.proofs.turns.count_atoms.Goals as goal

pub returns-then-is_spent : goal.returns-then-is_spent
returns-then-is_spent g c =
    let x : AnyContext = context_in (g.T.Lines.lines c.args.lines.now) c.args.context.now in
    let counted = counting_run x c.args.turns c.args.ways.now c.args.spent.now c.loop.most c.in_ok-most.most c.loop.ways c.make_run.new.ways c.loop.spent c.make_run.new.spent c.loop.invariant c.requires.numbers (atom_of c.args.test.now) c.requires.atom c.requires.free c.requires.greedy c.in_ok-most.ensures in
    counting_spent x c.args.turns c.args.ways.now c.args.spent.now c.in_ok-most.most c.make_run.new.ways c.make_run.new.spent counted c.requires.numbers (search rules)

pub returns-in-GoesOn-2 : goal.returns-in-GoesOn-2
returns-in-GoesOn-2 g c =
    let x : AnyContext = context_in (g.T.Lines.lines c.args.lines.now) c.args.context.now in
    let counted = counting_run x c.args.turns c.args.ways.now c.args.spent.now c.loop.most c.in_ok-most.most c.loop.ways c.make_run.new.ways c.loop.spent c.make_run.new.spent c.loop.invariant c.requires.numbers (atom_of c.args.test.now) c.requires.atom c.requires.free c.requires.greedy c.in_ok-most.ensures in
    let a = atom_of c.args.test.now in
    let t : IsTick x a c.put_aside.new.self c.tick.new.ways c.make_run.new.spent c.tick.new.spent GoesOn = rw c.in-GoesOn-2.is at c.in_ok-went.ensures in
    let unspent : is_spent c.in_ok-most.most ≡ false = search rules in
    let after : is_after c.tick.new.ways.here.way.at c.place-from.result ≡ false = search rules in
    counting_dropped x c.args.turns c.args.ways.now c.args.spent.now c.in_ok-most.most c.make_run.new.ways c.make_run.new.spent counted c.requires.numbers a c.requires.atom unspent c.requires.free c.requires.greedy
    c.put_aside.new.self c.tick.new.ways c.tick.new.spent c.in_ok-put_aside.ensures c.place-from.result (c.place-from.ensures ∙ rw c.in_ok-put_aside.ensures refl) t after

pub returns-in_default : goal.returns-in_default
returns-in_default g c =
    let x : AnyContext = context_in (g.T.Lines.lines c.args.lines.now) c.args.context.now in
    let counted = counting_run x c.args.turns c.args.ways.now c.args.spent.now c.loop.most c.in_ok-most.most c.loop.ways c.make_run.new.ways c.loop.spent c.make_run.new.spent c.loop.invariant c.requires.numbers (atom_of c.args.test.now) c.requires.atom c.requires.free c.requires.greedy c.in_ok-most.ensures in
    let a = atom_of c.args.test.now in
    let unspent : is_spent c.in_ok-most.most ≡ false = search rules in
    counting_over x c.args.turns c.args.ways.now c.args.spent.now c.in_ok-most.most c.make_run.new.ways c.make_run.new.spent counted c.requires.numbers a c.requires.atom unspent c.requires.free c.requires.greedy
    c.put_aside.new.self c.tick.new.ways c.tick.new.spent c.in_ok-put_aside.ensures c.place-from.result (c.place-from.ensures ∙ rw c.in_ok-put_aside.ensures refl)
    c.in_ok-went.went c.in_ok-went.ensures c.in_default.not-GoesOn

pub loop-preserved : goal.loop-preserved
loop-preserved g c =
    let x : AnyContext = context_in (g.T.Lines.lines c.args.lines.now) c.args.context.now in
    let counted = counting_run x c.args.turns c.args.ways.now c.args.spent.now c.loop.most c.in_ok-most.most c.loop.ways c.make_run.new.ways c.loop.spent c.make_run.new.spent c.loop.invariant c.requires.numbers (atom_of c.args.test.now) c.requires.atom c.requires.free c.requires.greedy c.in_ok-most.ensures in
    let a = atom_of c.args.test.now in
    let t : IsTick x a c.put_aside.new.self c.tick.new.ways c.make_run.new.spent c.tick.new.spent GoesOn = rw c.in-GoesOn.is at c.in_ok-went.ensures in
    let unspent : is_spent c.in_ok-most.most ≡ false = search rules in
    let after : is_after c.tick.new.ways.here.way.at c.place-from.result ≡ true = search rules in
    let told = counting_on x c.args.turns c.args.ways.now c.args.spent.now c.in_ok-most.most c.make_run.new.ways c.make_run.new.spent counted c.requires.numbers a c.requires.atom unspent c.requires.free c.requires.greedy
    c.put_aside.new.self c.tick.new.ways c.tick.new.spent c.in_ok-put_aside.ensures c.place-from.result (c.place-from.ensures ∙ rw c.in_ok-put_aside.ensures refl) t after in
    rw c.one_less-most.ensures told

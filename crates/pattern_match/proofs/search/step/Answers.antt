use Rattle.std.proofs.Common.{arith}
use Rattle.match_rules.specs.Ways.{Context as AnyContext, with_capture}
use Rattle.pattern_match.specs.declared.task.Next.TheVariants as at_once
use Rattle.pattern_match.specs.declared.task.Went.TheVariants.{GoesOn, Does}
use Rattle.pattern_match.specs.Contexts.{context_in}
use Rattle.pattern_match.proofs.Leading.{silent, led, leads_on, leads_do}
use Rattle.pattern_match.proofs.search.step.Goals as goal

pub returns-in-Visit : goal.returns-in-Visit
returns-in-Visit g c =
    let x : AnyContext = context_in (g.T.Lines.lines c.args.lines.now) c.args.context.now in
    rw c.in-Visit.is
    (silent x _ _ c.args.ways.now c.args.ways.now c.args.spent.now
    (Does (at_once.Visit c.in-Visit.node)) c.requires.within
    (leads_do x _ c.args.ways.now (at_once.Visit c.in-Visit.node)
    (rw c.in-Visit.is at c.requires.numbers) (omega arith)))

pub returns-in-Count : goal.returns-in-Count
returns-in-Count g c =
    let x : AnyContext = context_in (g.T.Lines.lines c.args.lines.now) c.args.context.now in
    rw c.in-Count.is
    (silent x _ _ c.args.ways.now c.args.ways.now c.args.spent.now
    (Does (at_once.Count c.in-Count.turns)) c.requires.within
    (leads_do x _ c.args.ways.now (at_once.Count c.in-Count.turns)
    (rw c.in-Count.is at c.requires.numbers) (omega arith)))

pub returns-in-Look : goal.returns-in-Look
returns-in-Look g c =
    let x : AnyContext = context_in (g.T.Lines.lines c.args.lines.now) c.args.context.now in
    rw c.in-Look.is
    (silent x _ _ c.args.ways.now c.args.ways.now c.args.spent.now
    (Does (at_once.Look c.in-Look.look)) c.requires.within
    (leads_do x _ c.args.ways.now (at_once.Look c.in-Look.look)
    (rw c.in-Look.is at c.requires.numbers) (omega arith)))

pub returns-in-AfterTurn : goal.returns-in-AfterTurn
returns-in-AfterTurn g c =
    let x : AnyContext = context_in (g.T.Lines.lines c.args.lines.now) c.args.context.now in
    rw c.in-AfterTurn.is
    (led x _ _ c.args.ways.now c.args.ways.now c.args.spent.now c.args.spent.now c.after_turn.result
    c.after_turn.ensures.led
    (silent x _ _ c.args.ways.now c.args.ways.now c.args.spent.now c.after_turn.result
    c.requires.within (c.after_turn.ensures.leads x)))

pub returns-in_ok-note_capture-in-Close : goal.returns-in_ok-note_capture-in-Close
returns-in_ok-note_capture-in-Close g c =
    let x : AnyContext = context_in (g.T.Lines.lines c.args.lines.now) c.args.context.now in
    rw c.in-Close.is
    (silent x 0 _ c.args.ways.now c.note_capture.new.self c.args.spent.now GoesOn c.requires.within
    (leads_on x 0 c.args.ways.now c.note_capture.new.self
    (record c.args.ways.now.here.way {
      captures = with_capture c.args.ways.now.here.way.captures
          c.in-Close.number c.in-Close.from c.args.ways.now.here.way.at;
    })
    c.in_ok-note_capture-in-Close.ensures (λ p. p)))

pub returns-in_ok-note_external-in-CloseExternal : goal.returns-in_ok-note_external-in-CloseExternal
returns-in_ok-note_external-in-CloseExternal g c =
    let x : AnyContext = context_in (g.T.Lines.lines c.args.lines.now) c.args.context.now in
    rw c.in-CloseExternal.is
    (silent x 0 _ c.args.ways.now c.note_external.new.self c.args.spent.now GoesOn c.requires.within
    (leads_on x 0 c.args.ways.now c.note_external.new.self
    (record c.args.ways.now.here.way {
      externals = with_capture
          c.args.ways.now.here.way.externals c.in-CloseExternal.number c.in-CloseExternal.from
          c.args.ways.now.here.way.at;
    }) c.in_ok-note_external-in-CloseExternal.ensures (λ p. p)))

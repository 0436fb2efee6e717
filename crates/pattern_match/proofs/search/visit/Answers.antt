use Rattle.std.proofs.Common.{◌≡◌, ◌∙◌, refl}
use Rattle.std.specs.Prelude.{Some, None}
use Rattle.std.proofs.lemmas.Result.{IfOk-weaker}
use Rattle.vim_pattern.specs.Shape.{or, ahead, before, whole}
use Rattle.match_rules.specs.Ways.{Context as AnyContext}
use Rattle.pattern_match.specs.declared.look.Ending.TheVariants as ending
use Rattle.pattern_match.specs.Contexts.{context_in}
use Rattle.pattern_match.specs.Fates.{choice}
use Rattle.pattern_match.specs.Steps.{shape_of, atom_of}
use Rattle.pattern_match.proofs.FateLaws.{choice_is, choice_parts}
use Rattle.pattern_match.proofs.Stepping.{atom_step}
use Rattle.pattern_match.proofs.Visiting.{follow_empty, follow_group, follow_external, follow_repeat, follow_looks, follow_and, follow_never}
use Rattle.pattern_match.proofs.search.visit.Goals as goal

pub returns-in-Empty : goal.returns-in-Empty
returns-in-Empty g c =
    let x : AnyContext = context_in (g.T.Lines.lines c.args.lines.now) c.args.context.now in
    follow_empty x (shape_of c.args.node.now) c.args.ways.now c.args.ways.now c.args.spent.now
    c.requires.numbers c.requires.within (rw c.in-Empty.is refl) refl

pub returns-in-One : goal.returns-in-One
returns-in-One g c =
    let x : AnyContext = context_in (g.T.Lines.lines c.args.lines.now) c.args.context.now in
    rw c.in-One.is
    (IfOk-weaker c.tick.result _ _
    (λ went h. atom_step x (atom_of c.in-One.test) c.args.ways.now c.tick.new.ways c.args.spent.now
    c.tick.new.spent 0 went h)
    c.tick.ensures)

pub returns-in-Seq : goal.returns-in-Seq
returns-in-Seq g c =
    rw c.in-Seq.is (rw (c.deref-in-Seq.ensures, c.deref.ensures) at c.follow_both.ensures)

pub returns-in-Or : goal.returns-in-Or
returns-in-Or g c =
    rw c.in-Or.is (rw (c.deref-in-Or-2.ensures, c.deref-in-Or.ensures) at c.follow_either.ensures)

pub returns-in-Choice : goal.returns-in-Choice
returns-in-Choice g c =
    let a = shape_of c.deref-in-Choice.result.now in
    let b = shape_of c.deref-in-Choice-2.result.now in
    let k : shape_of c.args.node.now ≡ choice a b = rw (c.in-Choice.is, c.deref-in-Choice.ensures, c.deref-in-Choice-2.ensures) refl in
    let parts = choice_parts a b (rw k at c.requires.numbers) in
    let is : shape_of c.args.node.now ≡ or a b = k ∙ choice_is a b parts.0 parts.1 in
    rw is c.follow_either-in-Choice.ensures

pub returns-in-Optional : goal.returns-in-Optional
returns-in-Optional g c =
    rw c.in-Optional.is (rw c.deref-in-Optional.ensures at c.follow_optional.ensures)

pub returns-in_ok-open_group-in-Group : goal.returns-in_ok-open_group-in-Group
returns-in_ok-open_group-in-Group g c =
    let x : AnyContext = context_in (g.T.Lines.lines c.args.lines.now) c.args.context.now in
    follow_group x (shape_of c.args.node.now) c.args.ways.now c.open_group.new.ways c.args.spent.now
    c.requires.numbers c.requires.within c.deref-in-Group.result c.in-Group.number
    c.args.ways.now.here.way.at
    (rw (c.in-Group.is, c.deref-in-Group.ensures) refl) refl c.in_ok-open_group-in-Group.ensures

pub returns-in_ok-open_external-in-External : goal.returns-in_ok-open_external-in-External
returns-in_ok-open_external-in-External g c =
    let x : AnyContext = context_in (g.T.Lines.lines c.args.lines.now) c.args.context.now in
    follow_external x (shape_of c.args.node.now) c.args.ways.now c.open_external.new.ways
    c.args.spent.now c.requires.numbers c.requires.within c.deref-in-External.result
    c.in-External.number c.args.ways.now.here.way.at
    (rw (c.in-External.is, c.deref-in-External.ensures) refl) refl
    c.in_ok-open_external-in-External.ensures

pub returns-in-Repeat : goal.returns-in-Repeat
returns-in-Repeat g c =
    let x : AnyContext = context_in (g.T.Lines.lines c.args.lines.now) c.args.context.now in
    rw c.new.ensures
    (follow_repeat x (shape_of c.args.node.now) c.args.ways.now c.args.ways.now c.args.spent.now
    c.requires.numbers c.requires.within
    (record {
      part = c.deref-in-Repeat.result;
      least = c.in-Repeat.least;
      most = c.in-Repeat.most;
      lazy = c.in-Repeat.lazy;
    }) (rw (c.in-Repeat.is, c.deref-in-Repeat.ensures) refl) refl)

pub returns-in_ok-put_first-in-And : goal.returns-in_ok-put_first-in-And
returns-in_ok-put_first-in-And g c =
    let x : AnyContext = context_in (g.T.Lines.lines c.args.lines.now) c.args.context.now in
    rw c.ahead.ensures
    (follow_and x (shape_of c.args.node.now) c.args.ways.now c.put_first.new.self c.args.spent.now
    c.requires.numbers c.requires.within c.deref-in-And-2.result c.deref-in-And.result
    (rw (c.in-And.is, c.deref-in-And-2.ensures, c.deref-in-And.ensures) refl)
    c.in_ok-put_first-in-And.ensures)

pub returns-in-Ahead : goal.returns-in-Ahead
returns-in-Ahead g c =
    let x : AnyContext = context_in (g.T.Lines.lines c.args.lines.now) c.args.context.now in
    rw c.ahead-in-Ahead.ensures
    (follow_looks x (shape_of c.args.node.now) c.args.ways.now c.args.ways.now c.args.spent.now
    c.requires.numbers c.requires.within
    (record { part = c.deref-in-Ahead.result; behind = None; ending = ending.Look c.in-Ahead.not })
    (ahead (shape_of c.deref-in-Ahead.result.now) c.in-Ahead.not)
    (rw (c.in-Ahead.is, c.deref-in-Ahead.ensures) refl) (λ w. refl) (λ h. h) refl refl)

pub returns-in-Before : goal.returns-in-Before
returns-in-Before g c =
    let x : AnyContext = context_in (g.T.Lines.lines c.args.lines.now) c.args.context.now in
    rw c.behind.ensures
    (follow_looks x (shape_of c.args.node.now) c.args.ways.now c.args.ways.now c.args.spent.now
    c.requires.numbers c.requires.within
    (record {
      part = c.deref-in-Before.result;
      behind = Some c.in-Before.limit;
      ending = ending.Look c.in-Before.not;
    })
    (before (shape_of c.deref-in-Before.result.now) c.in-Before.not c.in-Before.limit)
    (rw (c.in-Before.is, c.deref-in-Before.ensures) refl) (λ w. refl) (λ h. h) refl refl)

pub returns-in-Whole : goal.returns-in-Whole
returns-in-Whole g c =
    let x : AnyContext = context_in (g.T.Lines.lines c.args.lines.now) c.args.context.now in
    rw c.whole.ensures
    (follow_looks x (shape_of c.args.node.now) c.args.ways.now c.args.ways.now c.args.spent.now
    c.requires.numbers c.requires.within
    (record { part = c.deref-in-Whole.result; behind = None; ending = ending.Whole })
    (whole (shape_of c.deref-in-Whole.result.now))
    (rw (c.in-Whole.is, c.deref-in-Whole.ensures) refl) (λ w. refl) (λ h. h) refl refl)

pub returns-in-Never : goal.returns-in-Never
returns-in-Never g c =
    let x : AnyContext = context_in (g.T.Lines.lines c.args.lines.now) c.args.context.now in
    follow_never x (shape_of c.args.node.now) c.args.ways.now c.args.ways.now c.args.spent.now
    c.requires.numbers c.requires.within (rw c.in-Never.is refl)

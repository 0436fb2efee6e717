use Rattle.std.proofs.Common.{◌<◌, List, length, ap, arith}
use Rattle.std.proofs.lemmas.Result.{IfOk-weaker}
use Rattle.vim_pattern.specs.Tree.{PatternTree}
use Rattle.pattern_match.specs.Answers.{IsAttempt}
use Rattle.pattern_match.specs.Contexts.{context_in}
use Rattle.pattern_match.specs.OnText.{IsToldOn}
use Rattle.ex_substitute.proofs.command.ExCommand.attempt.Goals as goal

pub returns-clause-on_text : goal.returns-clause-on_text
returns-clause-on_text g c =
    let text = g.T.Lines.lines c.args.lines.now in
    let x = context_in text c.args.context.now in
    let trees = c.self.inside.programs in
    let added : 0 < length trees = omega (arith, ap (λ (l : List PatternTree). length l) c.self.invariant) in
    IfOk-weaker c.attempt_in.result (IsAttempt c.args.budget trees 0 x c.args.p) (IsToldOn text c.args.p)
    (λ told h. c.answers_stay_on_the_text.ensures trees c.args.budget 0 x c.args.p told added c.requires.place h) c.attempt_in.ensures

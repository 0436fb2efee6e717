use Rattle.std.proofs.Common.{sym, ap, ◌∙◌}
use Rattle.match_rules.specs.Atoms.{characters}
use Rattle.pattern_match.specs.Contexts.{context_in}
use Rattle.pattern_match.specs.Walks.{walked}
use Rattle.pattern_match.proofs.WalkLaws.{not_true, not_false, walked-line, walked-line_stopped, text_between-last}
use Rattle.pattern_match.proofs.walks.walk_between.Goals as goal

pub returns-then-not-walked-clause-value : goal.returns-then-not-walked-clause-value
returns-then-not-walked-clause-value g c =
    let x = context_in (g.T.Lines.lines c.args.lines.now) c.args.context.now in
    let w = c.walk_line-walked.result in
    walked-line_stopped x c.loop-from.from c.args.to c.loop-from.at w c.loop-from-test.true c.walk_line-walked.ensures.value (not_true w.whole c.if-not-walked.true)
    ∙ c.loop-from.invariant.same

pub loop-from-preserved : goal.loop-from-preserved
loop-from-preserved g c =
    let x = context_in (g.T.Lines.lines c.args.lines.now) c.args.context.now in
    let w = c.walk_line-walked.result in
    record {
      same = walked-line x c.loop-from.from c.args.to c.loop-from.at w c.loop-from-test.true c.walk_line-walked.ensures.value (not_false w.whole c.if-not-walked.false)
          ∙ c.loop-from.invariant.same;
      place = c.walk_line-walked.ensures.place;
    }

pub returns-clause-value : goal.returns-clause-value
returns-clause-value g c =
    let x = context_in (g.T.Lines.lines c.args.lines.now) c.args.context.now in
    c.walk_characters.ensures.value
    ∙ ap (λ text. walked x (characters text) c.loop-from.at) c.part_of_line.ensures
    ∙ ap (λ a. walked x a c.loop-from.at) (sym (text_between-last x.text c.loop-from.from c.args.to c.loop-from-test.false))
    ∙ c.loop-from.invariant.same

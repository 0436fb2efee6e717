use Rattle.match_rules.specs.Ways.{Context as AnyContext}
use Rattle.match_rules.specs.Visits.{visits}
use Rattle.pattern_match.specs.Contexts.{context_in}
use Rattle.pattern_match.specs.Glance.{marks_behind}
use Rattle.pattern_match.specs.Steps.{shape_of}
use Rattle.pattern_match.specs.declared.vain.Vain.TheVariants.{Unsure}
use Rattle.pattern_match.proofs.VainLaws.{by-place}
use Rattle.pattern_match.proofs.beyond.+vain_rest.Goals as goal

pub returns-then-is_left_out : goal.returns-then-is_left_out
returns-then-is_left_out t c = λ text w behind on_text is stands.
    let x : AnyContext = context_in text c.args.context.now in
    let f = λ (y : AnyContext). marks_behind y c.in-Then.others.now in
    rw c.in-Then.is
    (c.then.ensures w (visits x (shape_of c.in-Then.step.now) w) (f x) (c.vain_by-known.ensures text w behind on_text is stands)
    (by-place c.args.context.now f c.args.c c.args.at_start c.vain_rest.result c.vain_rest.ensures text w.at behind on_text is stands))

pub returns-else-is_left_out : goal.returns-else-is_left_out
returns-else-is_left_out t c = λ text w behind on_text is stands.
    let x : AnyContext = context_in text c.args.context.now in
    rw c.in-Then.is
    (c.is_left_out.ensures c.if-is_left_out.false Unsure w (visits x (shape_of c.in-Then.step.now) w) (marks_behind x c.in-Then.others.now)
    (c.vain_by-known.ensures text w behind on_text is stands) (λ v e. tt))

use Rattle.line_paint.proofs.Common.{◌-◌, ◌∷◌, [], List, Option, Some, ap, sym, ◌∙◌, GroupId, Span, chained, front, joined_run}
use Rattle.std.proofs.Common.{◌++◌}
use Rattle.line_paint.proofs.RunLaws.{run_apart, run_goes_on, run_is, run_of_none}
use Rattle.line_paint.proofs.spans.Spans.show.Goals as goal

pub returns-in-None : goal.returns-in-None
returns-in-None c = λ rest.
    let n = c.args.end - c.args.first in
    ap (chained c.args.self.now) (run_of_none n c.args.first rest
    ∙ ap (λ (k : Option GroupId). joined_run n c.args.first k rest) (sym c.in-None.is))

pub returns-in-None-growing : goal.returns-in-None-growing
returns-in-None-growing c = λ rest.
    let old = c.args.self.now in
    let n = c.args.end - c.args.first in
    let k = c.in-Some.group in
    ap (λ (s : Span). old.done ++ front (Some s) rest) c.span_of.ensures
    ∙ (ap (λ (l : List Span). old.done ++ l) (run_is c.args.first c.args.end k rest c.requires)
    ∙ (ap (λ (s : Option Span). old.done ++ front s (joined_run n c.args.first (Some k) rest))
    (sym c.in-None-growing.is)
    ∙ ap (λ (k : Option GroupId). chained old (joined_run n c.args.first k rest))
    (sym c.in-Some.is)))

pub returns-then-adjoins : goal.returns-then-adjoins
returns-then-adjoins c = λ rest.
    let old = c.args.self.now in
    let n = c.args.end - c.args.first in
    let k = c.in-Some.group in
    ap (λ (s : Span). old.done ++ front (Some s) rest) c.span_of-then-adjoins.ensures
    ∙ (ap (λ (l : List Span). old.done ++ l)
    (run_goes_on c.args.first c.args.end k rest c.requires c.in-Some-growing.span
    (sym c.adjoins.ensures ∙ c.if-adjoins.true))
    ∙ (ap (λ (s : Option Span). old.done ++ front s (joined_run n c.args.first (Some k) rest))
    (sym c.in-Some-growing.is)
    ∙ ap (λ (k : Option GroupId). chained old (joined_run n c.args.first k rest))
    (sym c.in-Some.is)))

pub returns-in_ok-push-in-Some-growing : goal.returns-in_ok-push-in-Some-growing
returns-in_ok-push-in-Some-growing c = λ rest.
    let old = c.args.self.now in
    let n = c.args.end - c.args.first in
    let k = c.in-Some.group in
    let s = c.in-Some-growing.span in
    ap (λ (whole : List Span). whole ++ front (Some c.span_of-in-Some-growing.result) rest)
    c.in_ok-push-in-Some-growing.ensures.ok
    ∙ (ap (λ (r : Span). (old.done ++ s ∷ []) ++ front (Some r) rest)
    c.span_of-in-Some-growing.ensures
    ∙ (run_apart c.args.first c.args.end k rest c.requires old.done s
    (sym c.adjoins.ensures ∙ c.if-adjoins.false)
    ∙ (ap (λ (r : Option Span). old.done ++ front r (joined_run n c.args.first (Some k) rest))
    (sym c.in-Some-growing.is)
    ∙ ap (λ (k : Option GroupId). chained old (joined_run n c.args.first k rest))
    (sym c.in-Some.is))))

use Rattle.std.proofs.Common.{sym, subst}
use Rattle.match_rules.specs.Ways.{Context as AnyContext}
use Rattle.match_rules.specs.Marks.{followed}
use Rattle.match_rules.specs.Visits.{visits}
use Rattle.pattern_match.specs.Contexts.{context_in}
use Rattle.pattern_match.specs.Glance.{marks_behind}
use Rattle.pattern_match.specs.Steps.{shape_of}
use Rattle.pattern_match.specs.Vain.{IsVain}
use Rattle.pattern_match.proofs.GlanceLaws.{both_is, either_is}
use Rattle.pattern_match.proofs.beyond.+vain_branch.Goals as goal

pub returns-in-One : goal.returns-in-One
returns-in-One g t c = λ w e. rw c.in-One.is (c.vain_behind.ensures w e)

pub returns-then-is_refused : goal.returns-then-is_refused
returns-then-is_refused g t c = λ w e.
    let x : AnyContext = context_in (g.T.Lines.lines c.args.lines.now) c.args.context.now in
    let f = marks_behind x c.args.rest.now in
    let a = shape_of c.in-Or.first.value in
    let b = shape_of c.in-Or.second.value in
    rw c.in-Or.is
    (subst (λ m. IsVain m w c.or.result) (sym (either_is x a b w f))
    (c.or.ensures w (followed (visits x a w) f) (followed (visits x b w) f)
    (rw c.deref.ensures at c.vain_branch-known.ensures w e) (rw c.deref-then-is_refused.ensures at c.vain_branch.ensures w e)))

pub returns-in-Seq : goal.returns-in-Seq
returns-in-Seq g t c = λ w e.
    let x : AnyContext = context_in (g.T.Lines.lines c.args.lines.now) c.args.context.now in
    let f = marks_behind x c.args.rest.now in
    let a = shape_of c.in-Seq.first.value in
    let b = shape_of c.in-Seq.second.value in
    rw c.in-Seq.is
    (subst (λ m. IsVain m w c.vain_branch-in-Seq.result) (sym (both_is x a b w f))
    (rw (c.deref-in-Seq.ensures, c.deref-in-Seq-2.ensures) at c.vain_branch-in-Seq.ensures w e))

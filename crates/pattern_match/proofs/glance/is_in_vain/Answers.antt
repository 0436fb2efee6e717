use Rattle.std.proofs.Common.{List, sym, ap, ◌∙◌, subst}
use Rattle.match_rules.specs.Ways.{Context as AnyContext}
use Rattle.match_rules.specs.Attempt.{answer_from}
use Rattle.match_rules.specs.Marks.{Mark}
use Rattle.match_rules.specs.Visits.{visits}
use Rattle.match_rules.proofs.MarkLaws.{followed-reach}
use Rattle.pattern_match.specs.Contexts.{context_in}
use Rattle.pattern_match.specs.Steps.{shape_of}
use Rattle.pattern_match.specs.Vain.{IsRefused}
use Rattle.pattern_match.proofs.GlanceLaws.{followed-wanted}
use Rattle.pattern_match.proofs.VainLaws.{refused-tells}
use Rattle.pattern_match.proofs.glance.is_in_vain.Goals as goal
use Rattle.pattern_match.proofs.glance.is_in_vain.Goals.{in-None, in-Some}

pub returns-in-InVain-clause-seen : goal.returns-in-InVain-clause-seen
returns-in-InVain-clause-seen g c = λ yes w e.
    let x : AnyContext = context_in (g.T.Lines.lines c.args.lines.now) c.args.context.now in
    let marks : List Mark = visits x (shape_of c.args.step.now) w in
    let h = rw (c.in-InVain.is, c.new-sight.ensures.spent, c.is_refused.ensures.unchanged c.if-is_refused.false ∙ c.other_refuses.ensures.unchanged c.if-other_refuses.false) at c.look_at.ensures.seen w (e ∙ sym c.new-sight.ensures.at) in
    elim c.match-wanted.branch [
      | in-None b ↦ rw b.in-None.is
          (ap (answer_from c.args.spent.now.cost c.args.spent.now.looked) (sym (followed-reach marks))
          ∙ (rw b.rest-is at h.1))
      | in-Some b ↦ rw b.in-Some.is
          (ap (answer_from c.args.spent.now.cost c.args.spent.now.looked)
          (sym (followed-wanted b.in-Some.place marks))
          ∙ (rw b.rest-is at h.1))
    ]

pub returns-then-is_refused-clause-seen : goal.returns-then-is_refused-clause-seen
returns-then-is_refused-clause-seen g c = λ yes w e.
    let x : AnyContext = context_in (g.T.Lines.lines c.args.lines.now) c.args.context.now in
    let part = visits x (shape_of c.args.step.now) in
    refused-tells part c.args.start c.args.spent.now c.is_refused.new.spent
    (subst (λ s. IsRefused part c.args.start s c.is_refused.new.spent) (c.other_refuses.ensures.unchanged c.if-other_refuses.false) (c.is_refused.ensures.refused c.if-is_refused.true))
    c.args.wanted w e

pub returns-then-other_refuses-clause-seen : goal.returns-then-other_refuses-clause-seen
returns-then-other_refuses-clause-seen g c = λ yes w e.
    let x : AnyContext = context_in (g.T.Lines.lines c.args.lines.now) c.args.context.now in
    refused-tells (visits x (shape_of c.args.step.now)) c.args.start c.args.spent.now c.other_refuses.new.spent (c.other_refuses.ensures.refused c.if-other_refuses.true) c.args.wanted w e

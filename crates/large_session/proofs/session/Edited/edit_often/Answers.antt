use Rattle.std.proofs.Common.{◌≡◌, ◌≤◌, ◌+◌, ◌∙◌, subst, arith, length}
use Rattle.edit_session.specs.Painter.{Painter}
use Rattle.large_session.specs.DrawnEdits.{drawn_edit}
use Rattle.large_session.specs.LargeSession.{edited}
use Rattle.large_session.specs.Steps.{standing}
use Rattle.large_session.proofs.OnwardLaws.{edits_on, painted_last, painted_on}
use Rattle.large_session.proofs.session.Edited.edit_often.Goals as goal

pub returns-in_err-edit_once-clause-steps : goal.returns-in_err-edit_once-clause-steps
returns-in_err-edit_once-clause-steps g c =
    let p = g.D.Document.painter c.args.self.now.document in
    let now = standing g.D.Lines.lines g.D.Document.shown c.loop.self.document c.loop.self.edits c.loop.self.refused c.loop.self.repainted in
    let text = g.D.Lines.lines c.loop.self.document in
    let C : Painter → Type 0 = λ q. c.edit_once.new.steps ≤ c.loop.steps + q.costs text (drawn_edit (length text) c.loop.draws).value in
    painted_last p now c.args.count c.loop.counter c.loop.draws c.loop.steps c.edit_once.new.steps _ c.loop-test.true c.loop.invariant.painted (subst C c.loop.invariant.same c.in_err-edit_once.ensures.steps)

pub loop-preserved : goal.loop-preserved
loop-preserved g c =
    let inv = c.loop.invariant in
    let own = c.in_ok-edit_once.ensures in
    let p = g.D.Document.painter c.args.self.now.document in
    let now = standing g.D.Lines.lines g.D.Document.shown c.loop.self.document c.loop.self.edits c.loop.self.refused c.loop.self.repainted in
    let next = standing g.D.Lines.lines g.D.Document.shown c.edit_once.new.self.document c.edit_once.new.self.edits c.edit_once.new.self.refused c.edit_once.new.self.repainted in
    let text = g.D.Lines.lines c.loop.self.document in
    let S : Painter → Type 0 = λ q. next ≡ edited q now (drawn_edit (length text) c.loop.draws).value in
    let C : Painter → Type 0 = λ q. c.edit_once.new.steps ≤ c.loop.steps + q.costs text (drawn_edit (length text) c.loop.draws).value in
    let stands = subst S inv.same own.stands in
    record {
      same = own.painter ∙ inv.same;
      stands = edits_on p now next _ c.args.count c.loop.counter c.loop.draws c.edit_once.new.draws c.loop-test.true inv.stands stands own.draws;
      painted = painted_on p now next c.args.count c.loop.counter c.loop.draws c.edit_once.new.draws c.loop.steps c.edit_once.new.steps _ c.loop-test.true inv.painted (subst C inv.same own.steps) stands own.draws;
      few = let few = inv.few in let more = own.few in omega arith;
    }

use Rattle.item_pick.proofs.Common.{refl, rules_by}
use Rattle.item_pick.proofs.FutileLaws.{futile_after, futile_by}
use Rattle.item_pick.proofs.TableLaws.{later_by, run_goes_on}
use Rattle.item_pick.proofs.TablesKept.{with_firsts}
use Rattle.item_pick.proofs.memory.PickMemory.next_by_run.Goals as goal

pub returns-in_err-keep-clause-may : goal.returns-in_err-keep-clause-may
returns-in_err-keep-clause-may g c =
    let p = c.args.picking.now in
    let s = p.asked.now in
    let r = rules_by s in
    let t = g.T.Lines.lines p.lines.now in
    let l = p.at.line in
    let first = c.requires.first.first in
    let entered = c.requires.may.ask.memory in
    let run = c.run_at-run.result in
    let longer = run_goes_on r (futile_by s.parts.now.sets.now s.budget) (futile_after s.parts.now.sets.now s.budget) t l c.args.by.now.item c.args.by.now.pattern.now first run c.in_ok-to.to
    c.run_at-run.ensures.tells.same (c.run_at-run.ensures.stands t l entered.line) (c.in_ok-to.ensures.missed t l entered.line) in
    record { sound = c.requires.may.ask.sound; place = c.requires.may.ask.place; memory = record { tables = with_firsts r c.args.self.now.tables entered.tables c.first_open.new.self c.first_open.ensures.stands; line = c.keep.ensures r t longer entered.line } }

pub returns-clause-may : goal.returns-clause-may
returns-clause-may g c =
    let p = c.args.picking.now in
    let s = p.asked.now in
    let r = rules_by s in
    let t = g.T.Lines.lines p.lines.now in
    let l = p.at.line in
    let first = c.requires.first.first in
    let entered = c.requires.may.ask.memory in
    let run = c.run_at-run.result in
    let longer = run_goes_on r (futile_by s.parts.now.sets.now s.budget) (futile_after s.parts.now.sets.now s.budget) t l c.args.by.now.item c.args.by.now.pattern.now first run c.in_ok-to.to
    c.run_at-run.ensures.tells.same (c.run_at-run.ensures.stands t l entered.line) (c.in_ok-to.ensures.missed t l entered.line) in
    record { sound = c.requires.may.ask.sound; place = c.requires.may.ask.place; memory = record { tables = with_firsts r c.args.self.now.tables entered.tables c.first_open.new.self c.first_open.ensures.stands; line = c.keep.ensures r t longer entered.line } }

pub returns-clause-next : goal.returns-clause-next
returns-clause-next g c =
    let p = c.args.picking.now in
    let s = p.asked.now in
    let r = rules_by s in
    let t = g.T.Lines.lines p.lines.now in
    let l = p.at.line in
    let first = c.requires.first.first in
    let entered = c.requires.may.ask.memory in
    let run = c.run_at-run.result in
    let longer = run_goes_on r (futile_by s.parts.now.sets.now s.budget) (futile_after s.parts.now.sets.now s.budget) t l c.args.by.now.item c.args.by.now.pattern.now first run c.in_ok-to.to
    c.run_at-run.ensures.tells.same (c.run_at-run.ensures.stands t l entered.line) (c.in_ok-to.ensures.missed t l entered.line) in
    later_by r t p.at c.args.by.now.item c.args.by.now.pattern.now first run c.args.col c.run_at-run.ensures.tells c.in_ok-to.to c.in_ok-to.ensures.from c.args.looked c.requires.may.held (c.if-not-holds.ensures refl) longer

pub returns-then-to-run-clause-next : goal.returns-then-to-run-clause-next
returns-then-to-run-clause-next g c =
    let p = c.args.picking.now in
    let s = p.asked.now in
    let r = rules_by s in
    let t = g.T.Lines.lines p.lines.now in
    let l = p.at.line in
    let first = c.requires.first.first in
    let entered = c.requires.may.ask.memory in
    let run = c.run_at-run.result in
    let longer = run_goes_on r (futile_by s.parts.now.sets.now s.budget) (futile_after s.parts.now.sets.now s.budget) t l c.args.by.now.item c.args.by.now.pattern.now first run c.in_ok-to.to
    c.run_at-run.ensures.tells.same (c.run_at-run.ensures.stands t l entered.line) (c.in_ok-to.ensures.missed t l entered.line) in
    later_by r t p.at c.args.by.now.item c.args.by.now.pattern.now first run c.args.col c.run_at-run.ensures.tells c.in_ok-to.to c.in_ok-to.ensures.from c.args.looked c.requires.may.held (c.if-not-holds.ensures refl) longer

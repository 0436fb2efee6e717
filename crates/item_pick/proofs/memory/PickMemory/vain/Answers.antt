use Rattle.item_pick.proofs.Common.{◌≡◌, ◌∙◌, sym, arith, subst, true, IfSome, Option, ℕ, IsVainFrom, IsCheapWithin, line_at, may_start_at, rules_by}
use Rattle.item_pick.proofs.BehindLaws.{vain_behind}
use Rattle.item_pick.proofs.FutileLaws.{futile_after, futile_behind, futile_by}
use Rattle.item_pick.proofs.TableLaws.{missed_vain}
use Rattle.item_pick.proofs.TablesKept.{with_firsts}
use Rattle.item_pick.proofs.memory.PickMemory.vain.Goals as goal

pub returns-clause-vain : goal.returns-clause-vain
returns-clause-vain g c =
    let p = c.args.picking.now in
    let s = p.asked.now in
    let r = rules_by s in
    let t = g.T.Lines.lines p.lines.now in
    let at-last : may_start_at c.args.by.now.pattern.now c.last.result p.at.col c.args.col ≡ true = sym c.may_start.ensures ∙ c.if-not-may_start.false in
    let may = subst (λ n. may_start_at c.args.by.now.pattern.now n p.at.col c.args.col ≡ true) c.last.ensures.is at-last in
    let told = c.in_ok-most.ensures in
    subst (λ lines. IsVainFrom r t p.at c.args.by.now.item c.args.by.now.pattern.now lines c.args.col) (sym c.two_lines-pair.ensures)
    (vain_behind r (futile_behind s.parts.now.sets.now s.budget) t c.args.by.now.item c.args.by.now.pattern.now p.at c.in-Some.most c.args.col c.in-Some-number_at.number
    may (c.requires.start.first (omega (arith, c.if-by-ne0.false))) (c.are_within.ensures c.if-not-are_within.false) (c.in-Some-number_at.ensures r t p.at.line c.requires.may.memory.line) (c.in_ok-ask.ensures.told c.if-not-branch.false)
    (subst (λ (o : Option ℕ). IfSome o (IsCheapWithin r c.args.by.now.item)) c.in-Some.is told.reach.longest))

pub returns-clause-may : goal.returns-clause-may
returns-clause-may g c =
    let p = c.args.picking.now in
    let r = rules_by p.asked.now in
    let t = g.T.Lines.lines p.lines.now in
    record {
      sound = c.requires.may.sound;
      place = c.requires.may.place;
      memory = record {
        tables = with_firsts r c.args.self.now.tables c.requires.may.memory.tables c.ask.new.self c.ask.ensures.stands;
        line = c.note_behind.ensures t p.at.line c.in-Some.most c.two_lines-pair.ensures (c.are_within.ensures c.if-not-are_within.false)
            (subst (λ (o : Option ℕ). IfSome o (IsCheapWithin r c.args.by.now.item)) c.in-Some.is c.in_ok-most.ensures.reach.longest) c.requires.may.memory.line;
      };
    }

pub returns-in_err-note_behind-clause-may : goal.returns-in_err-note_behind-clause-may
returns-in_err-note_behind-clause-may g c =
    let p = c.args.picking.now in
    let r = rules_by p.asked.now in
    let t = g.T.Lines.lines p.lines.now in
    record {
      sound = c.requires.may.sound;
      place = c.requires.may.place;
      memory = record {
        tables = with_firsts r c.args.self.now.tables c.requires.may.memory.tables c.ask.new.self c.ask.ensures.stands;
        line = c.note_behind.ensures t p.at.line c.in-Some.most c.two_lines-pair.ensures (c.are_within.ensures c.if-not-are_within.false)
            (subst (λ (o : Option ℕ). IfSome o (IsCheapWithin r c.args.by.now.item)) c.in-Some.is c.in_ok-most.ensures.reach.longest) c.requires.may.memory.line;
      };
    }

pub returns-then-not-begins_behind-clause-vain : goal.returns-then-not-begins_behind-clause-vain
returns-then-not-begins_behind-clause-vain g c =
    let p = c.args.picking.now in
    let s = p.asked.now in
    let r = rules_by s in
    let t = g.T.Lines.lines p.lines.now in
    let at-last : may_start_at c.args.by.now.pattern.now c.last.result p.at.col c.args.col ≡ true = sym c.may_start.ensures ∙ c.if-not-may_start.false in
    let may = subst (λ n. may_start_at c.args.by.now.pattern.now n p.at.col c.args.col ≡ true) c.last.ensures.is at-last in
    missed_vain r (futile_by s.parts.now.sets.now s.budget) (futile_after s.parts.now.sets.now s.budget) t c.args.by.now.item c.args.by.now.pattern.now p.at c.args.col
    may c.requires.column c.in_ok-missed.missed (λ e. c.in_ok-missed.ensures.missed e (line_at t p.at.line) (c.number_after-behind.ensures r t p.at.line c.requires.may.memory.line)) c.own_line_if.result c.own_line_if.ensures

use Rattle.item_pick.proofs.Common.{◌≡◌, ◌≤◌, ◌+◌, ◌∙◌, suc, arith, match_from, rules_by}
use Rattle.item_pick.proofs.FoundLaws.{column_none, column_some, column_stops, skip_to}
use Rattle.item_pick.proofs.MatchLaws.{match_begins, match_ends}
use Rattle.item_pick.proofs.ToldLaws.{stop_by, told_stop}
use Rattle.item_pick.proofs.ScreenLaws.{still_held}
use Rattle.item_pick.proofs.picking.Picking.item_match.Goals as goal

pub columns-init : goal.columns-init
columns-init g c =
    let r = rules_by c.args.self.now.asked.now in
    let t = g.T.Lines.lines c.args.self.now.lines.now in
    let next = c.in_ok-col.ensures.next in
    record {
      whole = match_begins r t c.args.by.now.item c.args.by.now.pattern.now c.args.self.now.at c.last-last.result c.last-last.ensures.is c.columns_of-columns.result c.columns_of-columns.ensures
          c.args.self.now.floor c.args.looked.now c.max-first.result (omega arith) (λ x h l within. omega (arith, h, l, within.0))
          ∙ skip_to (match_from r t c.args.by.now.item c.args.by.now.pattern.now c.args.self.now.at) c.last-last.result c.args.looked.now c.max-first.result c.in_ok-col.col next.ahead
          (λ x a b h. next.idle x a b (omega (arith, h, c.last-last.ensures.is)));
      held = c.requires.may.held;
      may = c.next_column.ensures.may;
      from = next.ahead;
    }

pub columns-preserved : goal.columns-preserved
columns-preserved g c = record {
  whole = c.columns.invariant.whole
      ∙ column_none _ c.last-last.result _ _ c.columns.col (c.columns.col + 1) (omega (arith, c.columns-test.true)) (omega arith) (rw c.in-Not.is at c.in_ok-tried.ensures.told);
  held = still_held _ _ _ _ _ c.columns.invariant.held (rw c.in-Not.is at c.in_ok-tried.ensures.told);
  may = c.note.ensures.may;
  from = omega (arith, c.columns.invariant.from);
}

pub columns-preserved-then-col-end : goal.columns-preserved-then-col-end
columns-preserved-then-col-end g c =
    let r = rules_by c.args.self.now.asked.now in
    let t = g.T.Lines.lines c.args.self.now.lines.now in
    let f = match_from r t c.args.by.now.item c.args.by.now.pattern.now c.args.self.now.at in
    let next = c.in_ok-col-in-Not.ensures.next in
    let absent = rw c.in-Not.is at c.in_ok-tried.ensures.told in
    let here : c.columns.col ≤ c.last-last.result = omega (arith, c.columns-test.true) in
    let one : c.columns.col + 1 ≡ suc c.columns.col = omega arith in
    record {
      whole = c.columns.invariant.whole
          ∙ (column_none f c.last-last.result c.columns.looked c.tried_from.new.looked c.columns.col (c.columns.col + 1) here one absent
          ∙ skip_to f c.last-last.result c.tried_from.new.looked (c.columns.col + 1) c.in_ok-col-in-Not.col next.ahead
          (λ x a b h. next.idle x a b (omega (arith, h, c.last-last.ensures.is))));
      held = still_held c.columns.looked c.tried_from.new.looked c.args.self.now.at.line (f c.columns.col) _ c.columns.invariant.held absent;
      may = c.next_column-then-col-end.ensures.may;
      from = omega (arith, next.ahead, c.columns.invariant.from);
    }

pub next_column-requires-then-col-end-clause-may : goal.next_column-requires-then-col-end-clause-may
next_column-requires-then-col-end-clause-may g c =
    let r = rules_by c.args.self.now.asked.now in
    let t = g.T.Lines.lines c.args.self.now.lines.now in
    let f = match_from r t c.args.by.now.item c.args.by.now.pattern.now c.args.self.now.at in
    let absent = rw c.in-Not.is at c.in_ok-tried.ensures.told in
    record {
      ask = c.note.ensures.may;
      held = still_held c.columns.looked c.tried_from.new.looked c.args.self.now.at.line (f c.columns.col) _ c.columns.invariant.held absent;
    }

pub columns-smaller-then-col-end : goal.columns-smaller-then-col-end
columns-smaller-then-col-end g c = omega (arith, c.in_ok-col-in-Not.ensures.next.ahead, c.columns-test.true)

pub returns-in-Here-clause-told : goal.returns-in-Here-clause-told
returns-in-Here-clause-told g c =
    let h : c.columns.col ≤ c.last-last.result = omega (arith, c.columns-test.true) in
    c.columns.invariant.whole ∙ column_some _ _ _ _ _ _ h (rw c.in-Here.is at c.in_ok-tried.ensures.told)

pub returns-in_err-tried-clause-told : goal.returns-in_err-tried-clause-told
returns-in_err-tried-clause-told g c =
    let h : c.columns.col ≤ c.last-last.result = omega (arith, c.columns-test.true) in
    told_stop _ c.in_err-tried.field-0.0 _ _ c.from_residual-in_err-tried.ensures.1
    (stop_by _ _ _ c.columns.invariant.whole (column_stops _ _ _ _ _ h c.in_err-tried.ensures.told))

pub returns-clause-told : goal.returns-clause-told
returns-clause-told g c =
    let r = rules_by c.args.self.now.asked.now in
    let t = g.T.Lines.lines c.args.self.now.lines.now in
    c.columns.invariant.whole
    ∙ match_ends r t c.args.by.now.item c.args.by.now.pattern.now c.args.self.now.at c.last-last.result c.last-last.ensures.is c.columns_of-columns.result c.columns_of-columns.ensures
    _ c.columns.col (λ x h l within. omega (arith, h, l, within.1))

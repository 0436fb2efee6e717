use Rattle.item_pick.proofs.Common.{◌≤◌, ℕ, [], reverse, below_more, arith, place_at, rules_by, IsQuietAt}
use Rattle.item_pick.proofs.BareLaws.{bare_starts}
use Rattle.item_pick.proofs.QuietPlaceLaws.{nothing_picked}
use Rattle.item_pick.proofs.picking.Picking.quiet_until.Goals as goal

pub is_quiet-requires-clause-wordless : goal.is_quiet-requires-clause-wordless
is_quiet-requires-clause-wordless g c = λ e. c.is_wordless-wordless.ensures e (rules_by c.args.self.now.asked.now) c.requires.may.ask.memory.tables

pub loop-col-preserved : goal.loop-col-preserved
loop-col-preserved g c =
    let s = c.args.self.now.asked.now in
    let r = rules_by s in
    let t = g.T.Lines.lines c.args.self.now.lines.now in
    let at = c.args.self.now.at in
    let before = c.loop-col.invariant.quiet in
    record {
      from = omega (arith, c.loop-col.invariant.from);
      quiet = λ k a b.
          below_more (λ (k : ℕ). at.col ≤ k → IsQuietAt r t c.allowed-choice.result c.args.self.now.floor c.args.looked (place_at at.line k)) c.loop-col.col (λ k b a. before k a b)
          (λ _. c.in_ok-quiet.ensures.quiet c.if-not-quiet.false) k b a;
      may = c.is_quiet.ensures.may;
    }

pub returns-then-not-quiet-clause-quiet : goal.returns-then-not-quiet-clause-quiet
returns-then-not-quiet-clause-quiet g c =
    let s = c.args.self.now.asked.now in
    let r = rules_by s in
    let t = g.T.Lines.lines c.args.self.now.lines.now in
    let before = c.loop-col.invariant.quiet in
    record {
      from = c.loop-col.invariant.from;
      within = omega (arith, c.loop-col-test.true, c.min.ensures, c.max-end.ensures, c.requires.may.ask.place.within, c.last-last.ensures.is);
      quiet = λ k a b over.
          nothing_picked r t c.args.self.now.at k (reverse c.args.stack.now) c.allowed-choice.result c.allowed-choice.ensures.allowed c.args.self.now.floor c.args.looked (before k a b) over;
    }

pub returns-then-is_bare-clause-quiet : goal.returns-then-is_bare-clause-quiet
returns-then-is_bare-clause-quiet g c =
    let r = rules_by c.args.self.now.asked.now in
    let t = g.T.Lines.lines c.args.self.now.lines.now in
    let at = c.args.self.now.at in
    let floor = c.args.self.now.floor in
    let bare = c.is_bare.ensures c.if-is_bare.true r c.requires.may.ask.memory.tables in
    record {
      from = omega (arith, c.max-end.ensures);
      within = omega (arith, c.min.ensures, c.max-end.ensures, c.requires.may.ask.place.within, c.last-last.ensures.is);
      quiet = λ k a b over.
          nothing_picked r t at k (reverse c.args.stack.now) c.allowed-choice.result c.allowed-choice.ensures.allowed floor c.args.looked (bare_starts r t (place_at at.line k) floor c.args.looked [] c.allowed-choice.result bare) over;
    }

pub returns-clause-quiet : goal.returns-clause-quiet
returns-clause-quiet g c =
    let s = c.args.self.now.asked.now in
    let r = rules_by s in
    let t = g.T.Lines.lines c.args.self.now.lines.now in
    let before = c.loop-col.invariant.quiet in
    record {
      from = omega (arith, c.max-end.ensures);
      within = omega (arith, c.min.ensures, c.max-end.ensures, c.requires.may.ask.place.within, c.last-last.ensures.is);
      quiet = λ k a b over.
          nothing_picked r t c.args.self.now.at k (reverse c.args.stack.now) c.allowed-choice.result c.allowed-choice.ensures.allowed c.args.self.now.floor c.args.looked (before k a (omega (arith, b, c.loop-col-test.false))) over;
    }

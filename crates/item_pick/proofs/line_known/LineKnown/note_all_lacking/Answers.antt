use Rattle.item_pick.proofs.Common.{ℕ, arith, subst, sym, line_at, rules_in, AreHeld}
use Rattle.std.proofs.lemmas.Bool.Decides.{nat_tests}
use Rattle.item_pick.proofs.line_known.LineKnown.note_all_lacking.Goals as goal

pub returns-in_err-note_lacking : goal.returns-in_err-note_lacking
returns-in_err-note_lacking c parts budget t l all line =
    let many = subst (λ (n : ℕ). AreHeld c.args.self.now.held n (line_at t l)) (sym (c.width-width.ensures (rules_in parts budget) t l line)) line.held in
    c.in_err-note_lacking.ensures parts budget t l many (all c.loop-one.one-index _ (grind (arith, nat_tests, c.loop-one-test.true))) (c.loop-one.invariant parts budget t l all line)

pub loop-one-preserved : goal.loop-one-preserved
loop-one-preserved c parts budget t l all line =
    let many = subst (λ (n : ℕ). AreHeld c.args.self.now.held n (line_at t l)) (sym (c.width-width.ensures (rules_in parts budget) t l line)) line.held in
    c.in_ok-note_lacking.ensures parts budget t l many (all c.loop-one.one-index _ (grind (arith, nat_tests, c.loop-one-test.true))) (c.loop-one.invariant parts budget t l all line)

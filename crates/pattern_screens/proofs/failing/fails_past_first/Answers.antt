use Rattle.pattern_screens.proofs.Common.{◌≡◌, ℕ, false, subst, true, arith, inl, inr, cases_lt, is_first, is_futile, key_numbered}
use Rattle.pattern_screens.proofs.failing.fails_past_first.Goals as goal

pub loop-number-preserved : goal.loop-number-preserved
loop-number-preserved c n below past = elim (cases_lt n c.loop-number.number) [
  | inl early ↦ c.loop-number.invariant n early past
  | inr late ↦
      let here : c.loop-number.number ≡ n = omega (arith, below, late) in
      subst (λ (k : ℕ). is_first (key_numbered k).last ≡ false → is_futile c.args.sets.now c.args.ignore (key_numbered k) c.args.tree.now ≡ true) here
      (c.is_futile_unless_first.ensures c.if-not-is_futile_unless_first.false) past
]

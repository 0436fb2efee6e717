use Rattle.std.proofs.Common.{◌≡◌, ◌*◌, ℕ, IfSome, ap, arith, subst, get_or}
use Rattle.std.specs.Prelude.{Option}
use Rattle.pattern_needs.specs.Growths.{chosen, grown, once}
use Rattle.pattern_needs.proofs.GrowthLaws.{chosen-known, none-left, sum-more}
use Rattle.pattern_needs.proofs.growth.Growth.at.Goals as goal
use Rattle.pattern_needs.proofs.growth.Growth.at.Goals.{then-many-gt0+in_ok-known+in_ok-checked_mul+in_ok-sum, else-many-gt0}

pub loop-k-preserved : goal.loop-k-preserved
loop-k-preserved c =
    let by = c.args.self.now.by in
    let k = c.loop-k.k in
    let left = c.args.left in
    let many = get_or by k 0 in
    record {
      known = chosen-known k left c.choose_more-known.result (c.choose_more-known.ensures c.loop-k.invariant.known);
      sum = sum-more by k c.loop-k.sum c.if-many-gt0.sum left (grown by once left) (omega arith) c.loop-k.invariant.sum
          (elim c.if-many-gt0.branch [
            | then-many-gt0+in_ok-known+in_ok-checked_mul+in_ok-sum w ↦
                let known = subst (λ (o : Option ℕ). IfSome o (λ (n : ℕ). n ≡ chosen k left)) w.in_ok-known.was c.loop-k.invariant.known in
                let times : many * w.in_ok-known.field-0 ≡ many * chosen k left = ap (λ (n : ℕ). many * n) known in
                omega (arith, w.sum-is, w.in_ok-sum.ensures, w.in_ok-checked_mul.ensures, times)
            | else-many-gt0 w ↦
                let none : many ≡ 0 = omega (arith, w.if-many-gt0.false) in
                let times : many * chosen k left ≡ 0 * chosen k left = ap (λ (n : ℕ). n * chosen k left) none in
                omega (arith, w.sum-is, times)
          ]);
    }

pub returns : goal.returns
returns c =
    omega (arith, c.loop-k.invariant.sum, none-left c.args.self.now.by c.loop-k.k (chosen c.loop-k.k) c.args.left (omega arith))

use Rattle.std.proofs.Common.{◌≡◌, subst, arith, inl, inr}
use Rattle.region_ends.proofs.Common.{cases_lt}
use Rattle.slots.specs.Entries.{IsMarked}
use Rattle.region_ends.proofs.searching.mark_between.Goals as goal

pub loop-col-preserved : goal.loop-col-preserved
loop-col-preserved c = record {
  between = λ d low high. elim (cases_lt d c.loop-col.col) [
    | inl before ↦ c.put.ensures.before d (c.loop-col.invariant.between d low before)
    | inr late ↦ (let same : c.loop-col.col ≡ d = omega (arith, late, high) in subst (IsMarked c.put.new.self) same c.in_ok-put.ensures.here)
  ];
  before = λ d marked. c.put.ensures.before d (c.loop-col.invariant.before d marked);
}

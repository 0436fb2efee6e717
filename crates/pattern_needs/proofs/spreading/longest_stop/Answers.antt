use Rattle.std.proofs.Common.{ℕ, sym, subst}
use Rattle.vim_pattern.specs.Shape.{bare}
use Rattle.pattern_needs.specs.Fronts.{stopped}
use Rattle.pattern_needs.specs.Spreads.{IsCheapPart}
use Rattle.pattern_needs.proofs.spreading.longest_stop.Goals as goal
use Rattle.pattern_needs.proofs.spreading.longest_stop.Goals.{in-Some+then-is_cheap_stop, in-Some+else-is_cheap_stop, in_default}

pub loop-preserved : goal.loop-preserved
loop-preserved c =
    let P : ℕ → Type 0 = λ n. IsCheapPart c.args.by.now.sets.now c.args.by.now.ignore n (stopped (bare c.args.node.now) c.args.number) c.args.budget in
    elim c.match-checked_add.branch [
      | in-Some+then-is_cheap_stop w ↦ subst P (sym w.most-is) (w.is_cheap_stop-in-Some.ensures w.if-is_cheap_stop.true)
      | in-Some+else-is_cheap_stop w ↦ subst P (sym w.most-is) c.loop.invariant
      | in_default w ↦ subst P (sym w.most-is) c.loop.invariant
    ]

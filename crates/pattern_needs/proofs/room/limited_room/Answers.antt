use Rattle.std.proofs.Common.{◌≡◌, ◌+◌, ◌∙◌, ap, arith}
use Rattle.std.specs.Prelude.{nat_lt}
use Rattle.std.proofs.lemmas.Bool.Decides.{nat_tests}
use Rattle.pattern_needs.specs.Growths.{total}
use Rattle.pattern_needs.specs.LineCosts.{Cost, limited}
use Rattle.pattern_needs.specs.declared.room.Room.{Room}
use Rattle.pattern_needs.proofs.GrowthLaws.{limited-next, if-some, if-none}
use Rattle.pattern_needs.proofs.room.limited_room.Goals as goal
use Rattle.pattern_needs.proofs.room.limited_room.Goals.{then-turn-free+in_ok-all-2, else-turn-free}

pub loop-turn-preserved : goal.loop-turn-preserved
loop-turn-preserved c =
    limited-next c.args.a c.loop-turn.all c.in_ok-all.all c.if-turn-free.all c.args.free c.loop-turn.turn c.loop-turn.invariant c.in_ok-all.ensures
    (λ f left. elim c.if-turn-free.branch [
      | then-turn-free+in_ok-all-2 w ↦
          let is : total c.if-turn-free.all f left ≡ total w.in_ok-all-2.all f left = ap (λ (r : Room). total r f left) w.all-is in
          let both : total w.in_ok-all-2.all f left ≡ total c.in_ok-all.all f left + total w.still.result f left = ap (λ (t : Cost → Cost). t f left) w.in_ok-all-2.ensures in
          let here : total w.still.result f left ≡ f left = ap (λ (t : Cost → Cost). t f left) w.still.ensures in
          omega (arith, is, both, here, if-some (nat_lt c.loop-turn.turn c.args.free) (f left) (grind (arith, nat_tests, w.if-turn-free.true)))
      | else-turn-free w ↦
          let is : total c.if-turn-free.all f left ≡ total c.in_ok-all.all f left = ap (λ (r : Room). total r f left) w.all-is in
          omega (arith, is, if-none (nat_lt c.loop-turn.turn c.args.free) (f left) (grind (arith, nat_tests, w.if-turn-free.false)))
    ])

pub returns : goal.returns
returns c =
    let end : c.loop-turn.turn ≡ c.args.turns = omega arith in
    c.loop-turn.invariant ∙ ap (limited (total c.args.a) c.args.free) end

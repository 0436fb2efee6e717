use Rattle.std.proofs.Common.{◌≡◌, ◌-◌, suc, true, ap, sym, arith, subst}
use Rattle.std.proofs.lemmas.Bool.Decides.{nat_tests}
use Rattle.vim_pattern.specs.Shape.{bare}
use Rattle.vim_pattern.specs.declared.node.Node.{Node}
use Rattle.pattern_needs.specs.Fronts.{front}
use Rattle.pattern_needs.specs.Growths.{IsRoomOf, total}
use Rattle.pattern_needs.specs.LineCosts.{Cost, cost_of, stays}
use Rattle.pattern_needs.proofs.GrowthLaws.{front-last, front-more, front-stay}
use Rattle.pattern_needs.proofs.rooms.numbered_room.Goals as goal

pub loop-rest-init : goal.loop-rest-init
loop-rest-init c = record {
  same = λ f. ap (λ (t : Cost → Cost). t (cost_of (front (bare c.args.node.now) c.args.number) f)) c.still-known.ensures;
  stay = λ h. h;
}

pub returns-then-left-eq0 : goal.returns-then-left-eq0
returns-then-left-eq0 c =
    let p = c.in_ok-room_of.field-0 in
    let part = subst (λ (n : Node). IsRoomOf (bare n) p) c.deref.ensures c.in_ok-room_of.ensures in
    front-last (bare c.loop-rest.rest.now) (bare c.in-Seq.a.value) (bare c.in-Seq.b.value) (front (bare c.args.node.now) c.args.number) c.loop-rest.left c.loop-rest.known p c.in_ok-known.known (ap bare c.in-Seq.is) (grind (arith, nat_tests, c.if-left-eq0.true)) part c.in_ok-known.ensures
    c.loop-rest.invariant.same c.loop-rest.invariant.stay

pub loop-rest-preserved : goal.loop-rest-preserved
loop-rest-preserved c =
    let p = c.in_ok-room_of.field-0 in
    let a = bare c.in-Seq.a.value in
    let b = bare c.in-Seq.b.value in
    let rest = bare c.loop-rest.rest.now in
    let all = front (bare c.args.node.now) c.args.number in
    let left = c.loop-rest.left in
    let more : left ≡ suc (left - 1) = grind (arith, nat_tests, c.if-left-eq0.false) in
    let part = subst (λ (n : Node). IsRoomOf (bare n) p) c.deref.ensures c.in_ok-room_of.ensures in
    record {
      same = λ f. subst (λ (n : Node). total c.in_ok-known.known (cost_of (front (bare n) (left - 1)) f) ≡ cost_of all f) (sym c.deref-rest.ensures) (front-more rest a b all left (left - 1) c.loop-rest.known p c.in_ok-known.known (ap bare c.in-Seq.is) more part c.in_ok-known.ensures c.loop-rest.invariant.same f);
      stay = λ h. front-stay rest a b (stays all) left (left - 1) (ap bare c.in-Seq.is) more part.stay c.loop-rest.invariant.stay (subst (λ (n : Node). stays (front (bare n) (left - 1)) ≡ true) c.deref-rest.ensures h);
    }

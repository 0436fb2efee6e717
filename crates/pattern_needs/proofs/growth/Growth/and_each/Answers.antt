use Rattle.std.proofs.Common.{◌≡◌, ◌-◌, suc, arith, subst}
use Rattle.pattern_needs.proofs.GrowthLaws.{IsFromPlace, from-before}
use Rattle.pattern_needs.proofs.growth.Growth.and_each.Goals as goal

pub loop-at-preserved : goal.loop-at-preserved
loop-at-preserved c =
    let own = c.args.self.now.by in
    let ways = c.args.ways.now.by in
    let more = c.args.more.now.by in
    let all = c.loop-at.all.by in
    let at = c.loop-at.at in
    let same : at ≡ suc (at - 1) = omega arith in
    let known = subst (λ n. IsFromPlace own ways more n all) same c.loop-at.invariant.from in
    record {
      within = omega arith;
      from = from-before own ways more all c.in_ok-all.all.by (at - 1) (omega arith) (omega arith) known c.in_ok-all.ensures;
    }

pub returns : goal.returns
returns c =
    let none : c.loop-at.at ≡ 0 = omega arith in
    subst (λ n. IsFromPlace c.args.self.now.by c.args.ways.now.by c.args.more.now.by n c.loop-at.all.by) none c.loop-at.invariant.from

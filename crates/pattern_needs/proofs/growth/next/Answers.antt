use Rattle.std.proofs.Common.{◌≡◌, ◌∙◌, ◌+◌, arith, length, get_or, ◌∷◌, sym, subst}
use Rattle.std.proofs.Math.ListN.{length-set}
use Rattle.pattern_needs.proofs.GrowthLaws.{behind-first, each-more, next-grown}
use Rattle.pattern_needs.proofs.growth.next.Goals as goal

pub loop-k-preserved : goal.loop-k-preserved
loop-k-preserved c =
    let by = c.loop-k.by in
    let k = c.loop-k.k in
    let sized : length by ≡ 8 = c.loop-k.invariant.sized in
    record {
      sized = length-set by k c.in_ok-by.field-0 ∙ sized;
      before = behind-first c.args.all.now.by c.args.first k (k + 1) (omega arith);
      each = each-more by c.args.all.now.by c.args.more.now.by c.args.first c.args.ways k c.in_ok-by.field-0 c.loop-k.before (omega (arith, sized)) c.loop-k.invariant.before c.loop-k.invariant.each
          (omega (arith, c.in_ok-by.ensures, c.in_ok-checked_mul.ensures));
    }

pub returns-then-before-eq0 : goal.returns-then-before-eq0
returns-then-before-eq0 c f left =
    let all : length c.args.all.now.by ≡ 8 = omega arith in
    let more : length c.args.more.now.by ≡ 8 = omega arith in
    let sized : length c.loop-k.by ≡ 8 = c.loop-k.invariant.sized in
    let end : c.loop-k.k ≡ length c.args.all.now.by = omega (arith, all) in
    next-grown c.loop-k.by c.args.all.now.by c.args.more.now.by c.args.first c.args.ways (omega (arith, sized, all)) (omega (arith, more, all)) (λ i h. c.loop-k.invariant.each i (omega (arith, h, all)))
    (subst (λ n. get_or (c.args.first ∷ c.args.all.now.by) n 0 ≡ 0) end (sym c.loop-k.invariant.before ∙ c.if-before-eq0.true)) f left

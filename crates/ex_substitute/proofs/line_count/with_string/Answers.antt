use Rattle.std.proofs.Common.{◌≡◌, ◌<◌, ◌+◌, ◌-◌, ◌*◌, ◌^◌, min, length, drop, ap, arith}
use Rattle.std.proofs.lemmas.Result.{err_from_is_err_and}
use Rattle.ex_substitute.specs.LineCount.{group_breaks, weigh, breaks_by}
use Rattle.ex_substitute.proofs.CountLaws.{weigh-step}
use Rattle.ex_substitute.proofs.line_count.with_string.Goals as goal

pub returns-in_err-count-2 : goal.returns-in_err-count-2
returns-in_err-count-2 g c =
    let text = g.T.Lines.lines c.args.lines.now in
    let m = c.args.m.now in
    let groups = c.args.tally.now.groups in
    let number = c.loop-number.number in
    let w = group_breaks text m in
    let times = c.get-times.result.now in
    let within : number < length groups = omega arith in
    let step : weigh (drop number groups) w number ≡ times * w number + weigh (drop (number + 1) groups) w (number + 1) = weigh-step groups w number times within c.get-times.ensures in
    let all : c.loop-number.count + weigh (drop number groups) w number ≡ c.args.count + breaks_by c.args.tally.now text m = c.loop-number.invariant.all in
    let is : c.group_breaks-breaks.result ≡ w number = c.group_breaks-breaks.ensures in
    let product : times * c.group_breaks-breaks.result ≡ times * w number = ap (λ n. times * n) is in
    let p = err_from_is_err_and c.from_residual-in_err-count-2.result c.from_residual-in_err-count-2.ensures.1 in
    let h = c.in_err-count-2.ensures in
    let over : 2000000 < c.loop-number.count + c.saturating_mul.result = h.1 in
    let most : c.saturating_mul.result ≡ min (times * c.group_breaks-breaks.result) (2 ^ 64 - 1) = c.saturating_mul.ensures in
    let total : 2000000 < c.args.count + breaks_by c.args.tally.now text m = omega arith in
    rw (p.1, p.2) (h.0, total)

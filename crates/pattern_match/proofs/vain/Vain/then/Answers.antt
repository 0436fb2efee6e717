use Rattle.std.proofs.Common.{◌+◌, refl}
use Rattle.match_rules.specs.Marks.{followed}
use Rattle.pattern_match.proofs.VainLaws.{noted-too, refused-first, then-left-out, then-noted, then-refused}
use Rattle.pattern_match.proofs.vain.Vain.then.Goals as goal

pub returns-in-Some : goal.returns-in-Some
returns-in-Some c =
    rw (c.in-LeftOut-Refused.is-0, c.in-LeftOut-Refused.is-1)
    (λ w marks f first next. then-refused c.in-LeftOut-Refused.ticks c.in-LeftOut-Refused.more c.in-Some.all c.in-Some.ensures.1 w marks f (noted-too w marks c.in-LeftOut-Refused.ticks first) next)

pub returns-in-Some-checked_add : goal.returns-in-Some-checked_add
returns-in-Some-checked_add c =
    rw (c.in-LeftOut-LeftOut.is-0, c.in-LeftOut-LeftOut.is-1)
    (then-left-out c.in-LeftOut-LeftOut.ticks c.in-LeftOut-LeftOut.more c.in-Some-checked_add.all c.in-Some-checked_add.ensures.1)

pub returns-in-Refused-default : goal.returns-in-Refused-default
returns-in-Refused-default c = rw c.in-Refused-default.is-0 (refused-first c.in-Refused-default.ticks c.args.next)

pub returns-in-LeftOut-Noted : goal.returns-in-LeftOut-Noted
returns-in-LeftOut-Noted c =
    let n = c.in-LeftOut-Noted.ticks in
    let m = c.in-LeftOut-Noted.more in
    rw (c.in-LeftOut-Noted.is-0, c.in-LeftOut-Noted.is-1)
    (λ w marks f first next. c.noted.ensures w (followed marks f) (then-noted n m (n + m) refl w marks f (noted-too w marks n first) next))

pub returns-in-Some-checked_add-2 : goal.returns-in-Some-checked_add-2
returns-in-Some-checked_add-2 c =
    rw (c.in-Noted-Refused.is-0, c.in-Noted-Refused.is-1)
    (then-refused c.in-Noted-Refused.ticks c.in-Noted-Refused.more c.in-Some-checked_add-2.all c.in-Some-checked_add-2.ensures.1)

pub returns-in-Noted-LeftOut : goal.returns-in-Noted-LeftOut
returns-in-Noted-LeftOut c =
    let n = c.in-Noted-LeftOut.ticks in
    let m = c.in-Noted-LeftOut.more in
    rw (c.in-Noted-LeftOut.is-0, c.in-Noted-LeftOut.is-1)
    (λ w marks f first next. c.noted-in-Noted-LeftOut.ensures w (followed marks f) (then-noted n m (n + m) refl w marks f first (λ v e. noted-too v (f v) m (next v e))))

pub returns-in-Noted-Noted : goal.returns-in-Noted-Noted
returns-in-Noted-Noted c =
    let n = c.in-Noted-Noted.ticks in
    let m = c.in-Noted-Noted.more in
    rw (c.in-Noted-Noted.is-0, c.in-Noted-Noted.is-1)
    (λ w marks f first next. c.noted-in-Noted-Noted.ensures w (followed marks f) (then-noted n m (n + m) refl w marks f first next))

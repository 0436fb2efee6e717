use Rattle.std.proofs.Common.{◌-◌, length, get_or, refl, sym}
use Rattle.ex_substitute.proofs.ChangeLaws.{last-to-some}
use Rattle.ex_substitute.proofs.substituting.last_to.Goals as goal

pub returns : goal.returns
returns c =
    let rest = c.args.rest.now in
    let d = c.index-rest-rest.result in
    last-to-some c.args.first.now rest d (get_or rest (length rest - 1) d) (sym c.if-is_empty.ensures) refl

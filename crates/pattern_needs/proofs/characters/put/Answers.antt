use Rattle.std.proofs.Common.{◌<◌, arith, refl}
use Rattle.char_class.proofs.SetLaws.{has_bit-put_at}
use Rattle.pattern_needs.proofs.characters.put.Goals as goal

pub returns : goal.returns
returns c k =
    let within : c.args.code < 256 = omega arith in
    has_bit-put_at _ _ _ _ _ k c.from-at.ensures within c.told-words refl refl

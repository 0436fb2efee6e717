use Rattle.std.proofs.Common.{◌<◌, arith}
use Rattle.char_class.proofs.SetLaws.{has_bit-put_at, has_bit-cut_at}
use Rattle.char_class.proofs.codes.put.Goals as goal
use Rattle.char_class.proofs.codes.put.Goals.{then-member, else-member}

pub returns : goal.returns
returns c k =
    let within : c.args.code < 256 = omega arith in
    elim c.if-member.branch [
      | then-member w ↦ has_bit-put_at _ _ _ _ _ k c.from-at.ensures within c.told-words w.if-member.true w.words-is
      | else-member w ↦ has_bit-cut_at _ _ _ _ _ k c.from-at.ensures within c.told-words w.if-member.false w.words-is
    ]

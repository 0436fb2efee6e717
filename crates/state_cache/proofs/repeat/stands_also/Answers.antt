use Rattle.std.proofs.Common.{arith}
use Rattle.std.proofs.lemmas.Int.{ints}
use Rattle.state_cache.proofs.RepeatLaws.{stands_also}
use Rattle.state_cache.proofs.repeat.stands_also.Goals as goal

pub returns : goal.returns
returns g c behind =
    stands_also (g.T.Lines.lines c.args.text.now) c.args.j c.args.k c.args.looked
    (c.are_equal.ensures c.if-not-are_equal.false)
    c.if-looked.false
    (omega (arith, ints, c.if-looked-ltminus1.false))
    (omega (arith, ints, c.if-looked-gt1.false))
    (c.are_equal_before.ensures c.if-not-are_equal_before.false)
    (c.are_equal_behind.ensures behind)

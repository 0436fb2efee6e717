use Rattle.char_class.specs.Folds.{range_holds}
use Rattle.pattern_match.proofs.BoundLaws.{range_lies_in}
use Rattle.pattern_match.proofs.bounds.range_bounds.Goals as goal

pub returns-then-ignore : goal.returns-then-ignore
returns-then-ignore c =
    rw (c.if-ignore.true, c.between.ensures.low, c.between.ensures.high, c.first_alike.ensures, c.last_alike.ensures)
    (range_lies_in c.args.low c.args.high)

pub returns-else-ignore : goal.returns-else-ignore
unfolding range_holds
returns-else-ignore c = rw c.if-ignore.false c.exact_bounds.ensures

use Rattle.state_stack.proofs.KindLaws.{have_kinds_on}
use Rattle.state_stack.proofs.stack.kinds_over.Goals as goal

pub returns-in_ok-over-in-Some : goal.returns-in_ok-over-in-Some
returns-in_ok-over-in-Some c =
    have_kinds_on c.in-Some.kinds.now _ c.in_ok-over-in-Some.ensures.kept c.args.below.now c.args.frame.now
    c.in-Some.ensures c.in_ok-over-in-Some.ensures.own

use Rattle.pattern_match.proofs.Counting.{turns_left, turns_over}
use Rattle.pattern_match.proofs.turns.after_turn.Goals as goal

pub returns-in-Some-clause-leads : goal.returns-in-Some-clause-leads
returns-in-Some-clause-leads c x =
    turns_left x c.args.turns c.args.ways.now c.requires c.args.from c.in-Some.turns
    (rw (c.in-Some.is, c.place.ensures) at c.next_turns.ensures)

pub returns-in-None-clause-leads : goal.returns-in-None-clause-leads
returns-in-None-clause-leads c x =
    turns_over x c.args.turns c.args.ways.now c.requires c.args.from
    (rw (c.in-None.is, c.place.ensures) at c.next_turns.ensures)

use Rattle.html_writer.proofs.Further.{spaced_further}
use Rattle.html_writer.proofs.characters.push_spaces.Goals as goal

pub loop-space-preserved : goal.loop-space-preserved
loop-space-preserved c =
    spaced_further c.args.pre c.args.count c.loop-space._space _ _ _ c.loop-space-test.true c.in_ok-push_character.ensures c.loop-space.invariant

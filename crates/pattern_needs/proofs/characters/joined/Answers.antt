use Rattle.pattern_needs.proofs.HeldLaws.{has_bit-or}
use Rattle.pattern_needs.proofs.characters.joined.Goals as goal

pub returns : goal.returns
returns c = has_bit-or c.args.a.now c.args.b.now

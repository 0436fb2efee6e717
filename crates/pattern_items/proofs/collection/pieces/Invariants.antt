use Rattle.std.proofs.Common.{◌≡◌, ◌++◌, length}
use Rattle.pattern_items.specs.Collection.{pieces}
use Rattle.pattern_items.proofs.collection.pieces.Given as goal

abbrev pub invariant-loop-member : goal.invariant-loop-member
invariant-loop-member l = l.all.items ++ pieces l.rest ≡ pieces l.members

abbrev pub decreases-loop-member : goal.decreases-loop-member
decreases-loop-member l = length l.rest

use Rattle.std.proofs.Common.{◌≡◌, drop}
use Rattle.pattern_items.specs.Collection.{first_fault}
use Rattle.pattern_items.proofs.collection.first_fault.Given as goal

abbrev pub invariant-loop-piece : goal.invariant-loop-piece
invariant-loop-piece l = first_fault (drop l.piece-index l.pieces) ≡ first_fault l.pieces

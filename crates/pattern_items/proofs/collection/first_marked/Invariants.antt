use Rattle.std.proofs.Common.{◌≡◌, drop}
use Rattle.pattern_items.specs.Collection.{first_marked}
use Rattle.pattern_items.proofs.collection.first_marked.Given as goal

abbrev pub invariant-loop-piece : goal.invariant-loop-piece
invariant-loop-piece l = first_marked (drop l.piece-index l.pieces) ≡ first_marked l.pieces

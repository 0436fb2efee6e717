use Rattle.std.proofs.Common.{◌≡◌, ◌++◌, drop}
use Rattle.pattern_items.specs.Collection.{set_parts}
use Rattle.pattern_items.proofs.collection.set_parts.Given as goal

abbrev pub invariant-loop-piece : goal.invariant-loop-piece
invariant-loop-piece l = l.parts ++ set_parts (drop l.piece-index l.pieces) ≡ set_parts l.pieces

use Rattle.std.proofs.Common.{◌≡◌, drop}
use Rattle.pattern_items.specs.Collection.{has_line_end}
use Rattle.pattern_items.proofs.collection.has_line_end.Given as goal

abbrev pub invariant-loop-piece : goal.invariant-loop-piece
invariant-loop-piece l = has_line_end (drop l.piece-index l.pieces) ≡ has_line_end l.pieces

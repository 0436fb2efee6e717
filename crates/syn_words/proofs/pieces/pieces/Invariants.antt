use Rattle.std.proofs.Common.{◌≡◌, length}
use Rattle.syn_words.specs.Pieces.{pieces, pieces_after}
use Rattle.syn_words.proofs.pieces.pieces.Given as goal

-- the pieces so far, with those from here on, are all
abbrev pub invariant-loop-fewer : goal.invariant-loop-fewer
invariant-loop-fewer l = pieces_after l.kind l.seen l.so_far l.turns l.reader ≡ pieces l.kind l.initial.reader

abbrev pub decreases-loop-fewer : goal.decreases-loop-fewer
decreases-loop-fewer l = length l.turns

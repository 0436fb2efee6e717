use Rattle.std.proofs.Common.{◌≡◌, ◌+◌, take, length}
use Rattle.chunk_list.specs.Flat.{flat}
use Rattle.chunk_list.proofs.chunks.place_of.Given as goal

-- the chunks so far hold what is no longer left
abbrev pub invariant-loop-i : goal.invariant-loop-i
invariant-loop-i g l = length (flat (take l.i l.chunks.items)) + l.left ≡ l.at

use Rattle.std.proofs.Common.{take}
use Rattle.std.specs.List.{All}
use Rattle.state_cache.specs.Reach.{LooksWithin}
use Rattle.state_cache.proofs.reach.reach_of_text.Given as goal

-- the range holds those of the notes so far
abbrev pub invariant-loop-line : goal.invariant-loop-line
invariant-loop-line l = All (LooksWithin l.all) (take l.line l.notes.0)

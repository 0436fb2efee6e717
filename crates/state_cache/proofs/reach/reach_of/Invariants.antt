use Rattle.std.proofs.Common.{take}
use Rattle.std.specs.List.{All}
use Rattle.state_cache.specs.Reach.{IsWithin, LooksWithin}
use Rattle.state_cache.proofs.reach.reach_of.Given as goal

-- the range holds the first one and those of the notes so far
abbrev pub invariant-loop-note : goal.invariant-loop-note
invariant-loop-note l = record {
  grows : IsWithin l.initial.all l.all;
  notes : All (LooksWithin l.all) (take l.note-index l.notes);
}

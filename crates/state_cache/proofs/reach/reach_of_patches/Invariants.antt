use Rattle.std.proofs.Common.{take}
use Rattle.std.specs.List.{All}
use Rattle.state_cache.specs.Reach.{IsWithin, LooksWithin}
use Rattle.state_cache.proofs.reach.reach_of_patches.Given as goal

-- the range holds the first one and those of the patches so far
abbrev pub invariant-loop-patch : goal.invariant-loop-patch
invariant-loop-patch l = record {
  grows : IsWithin l.initial.all l.all;
  notes : All (λ p. LooksWithin l.all p.note) (take l.patch-index l.patches);
}

use Rattle.std.proofs.Common.{◌≡◌}
use Rattle.state_cache.specs.Edits.{patched}
use Rattle.state_cache.proofs.commit.put_patches.Given as goal

-- the patches so far are in their places
abbrev pub invariant-loop-patch : goal.invariant-loop-patch
invariant-loop-patch l = record {
  notes : l.notes.0 ≡ patched l.initial.notes.0 l.yielded;
  spare : l.notes.1 ≡ l.initial.notes.1;
}

use Rattle.std.proofs.Common.{◌≡◌, ◌<◌, ℕ, true, get_or}
use Rattle.pattern_needs.specs.Characters.{holds}
use Rattle.pattern_needs.proofs.characters.Characters.of.Given as goal

-- those before are held
abbrev pub invariant-loop-c : goal.invariant-loop-c
invariant-loop-c l = (k : ℕ) → k < l.c-index → holds l.held (get_or l.line k 0) ≡ true

use Rattle.std.proofs.Common.{◌≡◌, ◌<◌, ◌+◌, ◌*◌, ℕ, ◌∷◌, get_or, length}
use Rattle.pattern_needs.proofs.growth.next.Given as goal

-- those before are told, and the one before is at hand
abbrev pub invariant-loop-k : goal.invariant-loop-k
invariant-loop-k l = record {
  sized : length l.by ≡ 8;
  before : l.before ≡ get_or (l.first ∷ l.all.by) l.k 0;
  each : (i : ℕ) → i < l.k → get_or l.by i 0 ≡ get_or (l.first ∷ l.all.by) i 0 + l.ways * get_or l.more.by i 0;
}

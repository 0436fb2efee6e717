use Rattle.std.proofs.Common.{◌≡◌, ◌<◌, ◌+◌, length, min}
use Rattle.std.specs.List.{All}
use Rattle.syn_folds.specs.Begun.{HaveEnded}
use Rattle.syn_folds.proofs.stretches.Begun.end_above.Given as goal

-- some of those above the level have ended
abbrev pub invariant-ends : goal.invariant-ends
invariant-ends l = record {
  ended : HaveEnded l.line (l.level + 1) l.initial.self.places.items l.initial.self.folds.items l.self.places.items l.self.folds.items;
  left : min (length l.self.places.items) l.level ≡ min (length l.initial.self.places.items) l.level;
  places : All (λ place. place < length l.self.folds.items) l.self.places.items;
  late : 0 < length l.self.places.items → 0 < l.line;
}

abbrev pub decreases-ends : goal.decreases-ends
decreases-ends l = length l.self.places.items

use Rattle.std.proofs.Common.{◌<◌, ◌≤◌, ◌-◌, length}
use Rattle.std.specs.List.{All}
use Rattle.syn_folds.specs.Begun.{HaveBegun}
use Rattle.syn_folds.proofs.stretches.Begun.begin_up_to.Given as goal

-- those up to so many levels have begun
abbrev pub invariant-begins : goal.invariant-begins
invariant-begins l = record {
  begun : HaveBegun l.line (length l.initial.self.places.items) (length l.self.places.items) l.initial.self.places.items l.initial.self.folds.items l.self.places.items l.self.folds.items;
  below : length l.self.places.items ≤ l.level;
  risen : length l.initial.self.places.items ≤ length l.self.places.items;
  places : All (λ place. place < length l.self.folds.items) l.self.places.items;
}

abbrev pub decreases-begins : goal.decreases-begins
decreases-begins l = l.level - length l.self.places.items

use Rattle.std.proofs.Common.{◌≡◌, ◌<◌, ◌++◌, length, drop}
use Rattle.std.specs.List.{All}
use Rattle.syn_folds.specs.Begun.{ended}
use Rattle.syn_folds.specs.Folds.{folds_from, folds_of}
use Rattle.syn_folds.proofs.stretches.folds.Given as goal

-- those that have begun, as the lines to come end them, and those that begin then, are all
abbrev pub invariant-loop-line : goal.invariant-loop-line
invariant-loop-line l = record {
  all : ended l.line (drop l.line l.levels) 1 l.begun.places.items l.begun.folds.items
      ++ folds_from l.line (length l.begun.places.items) (drop l.line l.levels) ≡ folds_of l.levels;
  places : All (λ place. place < length l.begun.folds.items) l.begun.places.items;
  late : 0 < length l.begun.places.items → 0 < l.line;
}

use Rattle.std.proofs.Common.{◌≡◌, ◌+◌, ◌≤◌, cond, length}
use Rattle.std.specs.List.{count_by, fold}
use Rattle.std.specs.Prelude.{reverse}
use Rattle.syn_folds.specs.Levels.{is_counted}
use Rattle.syn_folds.proofs.levels.fold_count.Given as goal

-- the count so far, with that of the rest, is that of the stack
abbrev pub invariant-frames : goal.invariant-frames
invariant-frames l = record {
  count : fold (λ a f. a + cond (is_counted l.items f) 1 0) l.count (reverse l.rest)
      ≡ count_by (is_counted l.items) (reverse l.stack);
  few : l.count + length l.rest ≤ 1000;
}

abbrev pub decreases-frames : goal.decreases-frames
decreases-frames l = length l.rest

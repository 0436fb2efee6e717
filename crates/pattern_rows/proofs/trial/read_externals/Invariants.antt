use Rattle.std.proofs.Common.{◌≡◌, length}
use Rattle.pattern_rows.proofs.trial.read_externals.Given as goal

-- as many texts as numbers so far
abbrev pub invariant-loop-index : goal.invariant-loop-index
invariant-loop-index l = length l.texts ≡ l.index

use Rattle.std.proofs.Common.{◌≡◌, ◌++◌, take, drop}
use Rattle.keyword_table.specs.Candidates.{folded}
use Rattle.keyword_table.proofs.last_table.fold_all.Given as goal

-- the characters up to here were folded
abbrev pub invariant-loop-one : goal.invariant-loop-one
invariant-loop-one l = l.word ≡ folded (take l.one-index l.initial.word) ++ drop l.one-index l.initial.word

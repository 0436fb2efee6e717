use Rattle.region_ends.proofs.Common.{◌≡◌, take, true, list_all, is_end_shut, question_of}
use Rattle.region_ends.proofs.passing.Walk.are_all_shut.Given as goal

-- the patterns before are shut out
abbrev pub invariant-loop-pattern : goal.invariant-loop-pattern
invariant-loop-pattern l =
    list_all (is_end_shut (question_of l.self) l.key) (take l.pattern-index l.patterns) ≡ true

use Rattle.std.proofs.Common.{◌≡◌, ◌++◌, take, drop, map}
use Rattle.conceal_view.specs.Marking.{in_mark, marked_pattern}
use Rattle.conceal_view.proofs.area_marks.mark_all.Given as goal

-- the patterns up to here are marked
abbrev pub invariant-loop-pattern : goal.invariant-loop-pattern
invariant-loop-pattern l =
    l.patterns ≡ map (marked_pattern (in_mark l.areas.first l.areas.groups)) (take l.pattern-index l.initial.patterns) ++ drop l.pattern-index l.initial.patterns

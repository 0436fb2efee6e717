use Rattle.std.proofs.Common.{◌≡◌, drop}
use Rattle.conceal_view.specs.Marks.{matchgroups_of}
use Rattle.syntax_set.specs.Numbers.{with_numbers}
use Rattle.conceal_view.proofs.area_marks.add_matchgroups.Given as goal

-- with those of the patterns to come they are all
abbrev pub invariant-loop-pattern : goal.invariant-loop-pattern
invariant-loop-pattern l =
    with_numbers l.groups.keys (matchgroups_of (drop l.pattern-index l.patterns)) ≡ with_numbers l.initial.groups.keys (matchgroups_of l.patterns)

use Rattle.std.proofs.Common.{◌≡◌, ◌≤◌, ◌+◌, ◌*◌}
use Rattle.std.specs.Prelude.{Some}
use Rattle.vim_pattern.specs.Shape.{bare}
use Rattle.vim_pattern.specs.Parted.{node_count}
use Rattle.pattern_needs.specs.Asking.{asked_of, either_asked, rather_asked}
use Rattle.pattern_needs.specs.Needs.{needed}
use Rattle.pattern_needs.proofs.asked.+ask.Given as goal

abbrev pub decreases-ask : goal.decreases-ask
decreases-ask l = 2 * node_count (bare l.node.now)

abbrev pub decreases-ask_behind : goal.decreases-ask_behind
decreases-ask_behind l = 2 * node_count (bare l.node.now) + 1

abbrev pub decreases-ask_either : goal.decreases-ask_either
decreases-ask_either l = 2 * node_count (bare l.node.now) + 1

abbrev pub decreases-ask_behind-loop-rest : goal.decreases-ask_behind-loop-rest
decreases-ask_behind-loop-rest l = node_count (bare l.rest)

-- what is known, with what is asked of the rest, is what is asked of the whole
abbrev pub invariant-ask_behind-loop-rest : goal.invariant-ask_behind-loop-rest
invariant-ask_behind-loop-rest l = record {
  same : rather_asked l.known (asked_of l.by.sets.now l.by.ignore l.c (needed (bare l.rest)))
      ≡ rather_asked l.fn.first (asked_of l.by.sets.now l.by.ignore l.c (needed (bare l.fn.node)));
  within : node_count (bare l.rest) ≤ node_count (bare l.fn.node);
}

abbrev pub decreases-ask_either-loop-rest : goal.decreases-ask_either-loop-rest
decreases-ask_either-loop-rest l = node_count (bare l.rest)

abbrev pub invariant-ask_either-loop-rest : goal.invariant-ask_either-loop-rest
invariant-ask_either-loop-rest l = record {
  same : either_asked (Some l.known) (asked_of l.by.sets.now l.by.ignore l.c (needed (bare l.rest)))
      ≡ either_asked (Some l.fn.one) (asked_of l.by.sets.now l.by.ignore l.c (needed (bare l.fn.node)));
  within : node_count (bare l.rest) ≤ node_count (bare l.fn.node);
}

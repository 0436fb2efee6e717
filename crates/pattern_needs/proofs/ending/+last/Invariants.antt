use Rattle.std.proofs.Common.{◌≤◌, ◌+◌, ◌*◌}
use Rattle.vim_pattern.specs.Shape.{bare}
use Rattle.vim_pattern.specs.Parted.{node_count}
use Rattle.pattern_needs.specs.Endings.{IsAmong, LeadsAmong}
use Rattle.pattern_needs.specs.declared.characters.Characters.{Characters}
use Rattle.pattern_needs.proofs.ending.+last.Given as goal

abbrev pub decreases-behind : goal.decreases-behind
decreases-behind l = 2 * node_count (bare l.node.now)

abbrev pub decreases-behind_pieces : goal.decreases-behind_pieces
decreases-behind_pieces l = 2 * node_count (bare l.node.now) + 1

abbrev pub decreases-behind_branches : goal.decreases-behind_branches
decreases-behind_branches l = 2 * node_count (bare l.node.now) + 1

abbrev pub decreases-behind_pieces-loop-rest : goal.decreases-behind_pieces-loop-rest
decreases-behind_pieces-loop-rest l = node_count (bare l.rest)

-- where the rest leads from what is known, there the whole does
abbrev pub invariant-behind_pieces-loop-rest : goal.invariant-behind_pieces-loop-rest
invariant-behind_pieces-loop-rest l = record {
  leads : (r : Characters) → LeadsAmong l.by.sets.now l.by.ignore (bare l.rest) l.known r → LeadsAmong l.by.sets.now l.by.ignore (bare l.fn.node) l.fn.from r;
  within : node_count (bare l.rest) ≤ node_count (bare l.fn.node);
}

abbrev pub decreases-behind_branches-loop-rest : goal.decreases-behind_branches-loop-rest
decreases-behind_branches-loop-rest l = node_count (bare l.rest)

-- the branches before lead to what is known
abbrev pub invariant-behind_branches-loop-rest : goal.invariant-behind_branches-loop-rest
invariant-behind_branches-loop-rest l = record {
  wider : IsAmong l.fn.one l.known;
  leads : (r : Characters) → IsAmong l.known r → LeadsAmong l.by.sets.now l.by.ignore (bare l.rest) l.fn.from r → LeadsAmong l.by.sets.now l.by.ignore (bare l.fn.node) l.fn.from r;
  within : node_count (bare l.rest) ≤ node_count (bare l.fn.node);
}

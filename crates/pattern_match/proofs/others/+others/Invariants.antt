use Rattle.std.proofs.Common.{◌+◌, ◌*◌}
use Rattle.vim_pattern.specs.Parted.{node_count}
use Rattle.pattern_match.specs.Steps.{shape_of}
use Rattle.pattern_match.proofs.others.+others.Given as goal

abbrev pub decreases-vain_by_others : goal.decreases-vain_by_others
decreases-vain_by_others l = 2 * node_count (shape_of l.step.now)

abbrev pub decreases-vain_behind_others : goal.decreases-vain_behind_others
decreases-vain_behind_others l = 2 * node_count (shape_of l.second.now) + 1

-- Patterns that begin with a look behind without a limit: what an attempt does at a column where what
-- follows the look fails.
use Rattle.std.specs.Prelude.{◌+◌, ◌*◌, ℕ, Bool, false, not, nat_lt, Option, Some, None, if◌then◌else◌}
use Rattle.pattern_items.specs.declared.item.Behind.TheVariants.{Any}
use Rattle.vim_pattern.specs.Shape.{Shape, seq, before}
use Rattle.vim_pattern.specs.Tree.{PatternTree}
use Rattle.pattern_screens.specs.Bounds.{failing_cost}
use Rattle.pattern_screens.specs.Lined.{tries_first}
use Rattle.pattern_screens.specs.Rest.{rest_tree}
use Rattle.pattern_screens.specs.Rooms.{room_of}
use Rattle.pattern_screens.specs.declared.bounds.Bound.{Bound}

-- a part is tried from each column of two lines that have so many characters together
abbrev pub from_starts : ℕ → Option Bound → Option ℕ
from_starts most None = None
from_starts most (Some room) = Some (room.cost * (most + 2))

abbrev pub piece_cost : ℕ → Shape → Option ℕ
piece_cost most (before part negative Any) =
    if tries_first part then from_starts most (room_of most part) else None
piece_cost most _ = None

-- what the look costs at most with which a pattern begins
abbrev pub behind_cost : ℕ → Shape → Option ℕ
behind_cost most (seq a b) = piece_cost most a
behind_cost most _ = None

abbrev pub is_within : ℕ → Option ℕ → ℕ → Bool
is_within budget None rest = false
is_within budget (Some cost) rest = not (nat_lt budget (cost + rest))

-- where a line and the one before have so many characters together, an attempt at a column at which what
-- follows the look fails is within the budget
abbrev pub is_cheap_behind : ℕ → ℕ → PatternTree → Bool
is_cheap_behind budget most tree =
    is_within budget (behind_cost most tree.node) (failing_cost (rest_tree tree))

use Rattle.std.proofs.Common.{◌+◌, ◌*◌, length}
use Rattle.match_rules.specs.Visits.{visits}
use Rattle.match_rules.specs.Attempt.{answer_from}
use Rattle.pattern_match.specs.Contexts.{context_in}
use Rattle.pattern_match.specs.Steps.{shape_of}
use Rattle.pattern_match.specs.Heights.{height, height_of}
use Rattle.pattern_match.specs.Search.{wanted_marks, task_of}
use Rattle.pattern_match.specs.Starts.{starts_left}
use Rattle.pattern_match.proofs.Looping.{IsRunning}
use Rattle.pattern_match.proofs.LookingBehind.{IsBehind}
use Rattle.pattern_match.proofs.search.+search.Given as goal

-- by the height of what is followed, and within it by how far the calls have come
abbrev pub decreases-search : goal.decreases-search
decreases-search g l = 8 * height (shape_of l.part.now) + 3

abbrev pub decreases-follow : goal.decreases-follow
decreases-follow g l = 8 * height_of (task_of l.next) + 2

abbrev pub decreases-follow_look : goal.decreases-follow_look
decreases-follow_look g l = 8 * height (shape_of l.look.part.now) + 5

abbrev pub decreases-search_behind : goal.decreases-search_behind
decreases-search_behind g l = 8 * height (shape_of l.part.now) + 4

-- what the ways still try and reach, behind what was spent, has the answer of the search
abbrev pub invariant-search-loop : goal.invariant-search-loop
invariant-search-loop g l =
    let x = context_in (g.T.Lines.lines l.lines) l.context in
    IsRunning x (height (shape_of l.part)) l.wanted (answer_from l.fn.spent.cost l.fn.spent.looked (wanted_marks l.wanted (visits x (shape_of l.part) l.fn.ways.here.way))) l.fn.spent.budget l.fn.ways.pending l.ways l.spent l.went

abbrev pub decreases-search_behind-loop-start : goal.decreases-search_behind-loop-start
decreases-search_behind-loop-start g l = length (starts_left (g.T.Lines.lines l.lines) l.starts)

-- from the starts that are left comes the rest of the answer, and a copy of the way is kept
abbrev pub invariant-search_behind-loop-start : goal.invariant-search_behind-loop-start
invariant-search_behind-loop-start g l =
    let x = context_in (g.T.Lines.lines l.lines) l.context in
    IsBehind x (shape_of l.part) l.fn.limit l.fn.ways l.fn.spent l.ways l.spent l.starts

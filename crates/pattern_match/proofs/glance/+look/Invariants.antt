use Rattle.std.proofs.Common.{◌≡◌, ◌≤◌, ◌+◌, ◌*◌}
use Rattle.match_rules.specs.Attempt.{answer_from}
use Rattle.match_rules.specs.Ways.{Way}
use Rattle.pattern_match.specs.Beyond.{IsKept}
use Rattle.pattern_match.specs.Contexts.{context_in}
use Rattle.pattern_match.specs.Glance.{GoesOn, marks_behind, stops_of}
use Rattle.pattern_match.proofs.GlanceRuns.{ComesTo}
use Rattle.pattern_match.proofs.glance.+look.Given as goal

-- by the nodes that may still be visited, and within them by how far the calls have come
abbrev pub decreases-look_at : goal.decreases-look_at
decreases-look_at g l = 8 * l.sight.now.left

abbrev pub decreases-go_on : goal.decreases-go_on
decreases-go_on g l = 8 * l.sight.now.left

abbrev pub decreases-go_on_beyond : goal.decreases-go_on_beyond
decreases-go_on_beyond g l = 8 * l.sight.now.left + 1

abbrev pub decreases-look_after_turn : goal.decreases-look_after_turn
decreases-look_after_turn g l = 8 * l.sight.now.left

abbrev pub decreases-look_at_one : goal.decreases-look_at_one
decreases-look_at_one g l = 8 * l.sight.now.left + 3

abbrev pub decreases-look_at_both : goal.decreases-look_at_both
decreases-look_at_both g l = 8 * l.sight.now.left + 4

abbrev pub decreases-look_at_noting : goal.decreases-look_at_noting
decreases-look_at_noting g l = 8 * l.sight.now.left + 2

abbrev pub decreases-look_at_noting_first : goal.decreases-look_at_noting_first
decreases-look_at_noting_first g l = 8 * l.sight.now.left + 3

abbrev pub decreases-go_on_noting : goal.decreases-go_on_noting
decreases-go_on_noting g l = 8 * l.sight.now.left + 1

abbrev pub decreases-go_on_behind : goal.decreases-go_on_behind
decreases-go_on_behind g l = 8 * l.sight.now.left + 2

abbrev pub decreases-go_on_later : goal.decreases-go_on_later
decreases-go_on_later g l = 8 * l.sight.now.left + 1

abbrev pub decreases-look_at_first : goal.decreases-look_at_first
decreases-look_at_first g l = 8 * l.sight.now.left + 1

abbrev pub decreases-look_at_other : goal.decreases-look_at_other
decreases-look_at_other g l = 8 * l.sight.now.left + 6

abbrev pub decreases-look_at_either : goal.decreases-look_at_either
decreases-look_at_either g l = 8 * l.sight.now.left + 5

abbrev pub decreases-look_at_branch : goal.decreases-look_at_branch
decreases-look_at_branch g l = 8 * l.sight.now.left + 4

abbrev pub decreases-look_at_optional : goal.decreases-look_at_optional
decreases-look_at_optional g l = 8 * l.sight.now.left + 1

abbrev pub decreases-look_at_turn : goal.decreases-look_at_turn
decreases-look_at_turn g l = 8 * l.sight.now.left + 1

abbrev pub decreases-look_at_count : goal.decreases-look_at_count
decreases-look_at_count g l = 8 * l.sight.now.left + 5

abbrev pub decreases-look_ahead : goal.decreases-look_ahead
decreases-look_ahead g l = 8 * l.sight.now.left + 3

abbrev pub decreases-look_at_greedy : goal.decreases-look_at_greedy
decreases-look_at_greedy g l = 8 * l.sight.now.left + 4

abbrev pub decreases-look_at_runs : goal.decreases-look_at_runs
decreases-look_at_runs g l = 8 * l.sight.now.left + 3

abbrev pub decreases-look_at_lazy : goal.decreases-look_at_lazy
decreases-look_at_lazy g l = 8 * l.sight.now.left + 3

abbrev pub decreases-look_at_more : goal.decreases-look_at_more
decreases-look_at_more g l = 8 * l.sight.now.left + 2

abbrev pub decreases-look_at_stops : goal.decreases-look_at_stops
decreases-look_at_stops g l = 8 * l.sight.now.left + 2

abbrev pub decreases-look_at_lazy_atoms : goal.decreases-look_at_lazy_atoms
decreases-look_at_lazy_atoms g l = 8 * l.sight.now.left + 2

abbrev pub decreases-look_at_stops-stops : goal.decreases-look_at_stops-stops
decreases-look_at_stops-stops g l = l.left

-- what follows the stops that are left tells what all of them do
abbrev pub invariant-look_at_stops-stops : goal.invariant-look_at_stops-stops
invariant-look_at_stops-stops g l =
    let text = g.T.Lines.lines l.lines in
    let f = marks_behind (context_in text l.context) l.rest in
    record {
      within : l.left ≤ l.count;
      kept : IsKept l.context l.rest l.kept;
      goes : GoesOn text l.fn.sight l.sight;
      notes : l.sight.notes.items ≡ l.fn.sight.notes.items;
      seen : (w : Way) → w.at ≡ l.from → answer_from l.fn.sight.spent.cost l.fn.sight.spent.looked (stops_of f w l.count) ≡ answer_from l.sight.spent.cost l.sight.spent.looked (stops_of f w l.left);
    }

-- the turns that are left tell what all of them do
abbrev pub invariant-look_at_lazy_atoms-loop : goal.invariant-look_at_lazy_atoms-loop
invariant-look_at_lazy_atoms-loop g l =
    let text = g.T.Lines.lines l.lines in
    let x = context_in text l.context in
    record {
      goes : GoesOn text l.fn.sight l.sight;
      kept : IsKept l.context l.rest l.kept;
      comes : ComesTo x (marks_behind x l.rest) l.turns (record l.turns { most = l.most }) l.fn.sight l.sight;
    }

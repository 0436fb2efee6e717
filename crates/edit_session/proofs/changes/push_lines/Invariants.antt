use Rattle.std.proofs.Common.{◌≡◌, ◌≤◌, ◌++◌}
use Rattle.std.specs.Prelude.{slice_range}
use Rattle.edit_session.proofs.changes.push_lines.Given as goal

-- the lines so far stand behind those that were there
abbrev pub invariant-loop-number : goal.invariant-loop-number
invariant-loop-number g l =
    (l.lines ≡ l.initial.lines ++ slice_range (g.T.Lines.lines l.text) l.a l.number) × (l.a ≤ l.number)

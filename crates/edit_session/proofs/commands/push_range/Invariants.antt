use Rattle.std.proofs.Common.{◌≡◌, ◌-◌, ◌++◌}
use Rattle.std.specs.List.{range_with_len}
use Rattle.edit_session.specs.Session.{lines_text}
use Rattle.edit_session.proofs.commands.push_range.Given as goal

-- what was printed, with the lines to come, is the whole
abbrev pub invariant-loop-number : goal.invariant-loop-number
invariant-loop-number g l =
    let painter = g.D.Document.painter l.document in
    let shown = g.D.Document.shown l.document in
    l.out.items ++ lines_text painter shown (range_with_len l.number (l.b - l.number))
    ≡ l.initial.out.items ++ lines_text painter shown (range_with_len l.a (l.b - l.a))

use Rattle.std.proofs.Common.{◌≡◌, ◌++◌}
use Rattle.paint_reuse.specs.Work.{kept_spans}
use Rattle.state_cache.specs.Shown.{lines_shown_otherwise, shows_otherwise, text_shown}
use Rattle.state_cache.proofs.ShownLaws.{kept_after}
use Rattle.state_cache.proofs.shown.Exchange.lines.Given as goal

-- the lines that are told so far, and those that are to be told
abbrev pub invariant-loop-line : goal.invariant-loop-line
invariant-loop-line l =
    let before = text_shown l.self.old.now (kept_spans l.old.0) in
    let after = text_shown l.self.new.now (kept_spans l.new.0) in
    l.lines ++ kept_after (shows_otherwise before after) l.line l.line-end ≡ lines_shown_otherwise before after

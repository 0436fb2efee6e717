use Rattle.std.proofs.Common.{◌≡◌, length}
use Rattle.std.specs.Prelude.{drop}
use Rattle.state_cache.specs.Shown.{line_shown, show_same}
use Rattle.state_cache.proofs.shown.Exchange.are_same.Given as goal

-- what is left shows the same exactly where the whole does
abbrev pub invariant-loop-one : goal.invariant-loop-one
invariant-loop-one l =
    show_same (line_shown l.self.old.now (drop (length l.yielded) l.old)) (line_shown l.self.new.now (drop (length l.yielded) l.new))
    ≡ show_same (line_shown l.self.old.now l.old) (line_shown l.self.new.now l.new)

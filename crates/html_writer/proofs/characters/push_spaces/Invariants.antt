use Rattle.std.proofs.Common.{◌≡◌, ◌-◌, ◌++◌}
use Rattle.std.specs.Prelude.{replicate}
use Rattle.html_writer.specs.Page.{line_text}
use Rattle.html_writer.proofs.characters.push_spaces.Given as goal

-- what was written, with the spaces to come, is all of them
abbrev pub invariant-loop-space : goal.invariant-loop-space
invariant-loop-space l =
    l.page.items ++ line_text l.pre (replicate (l.count - l._space) 32)
    ≡ l.initial.page.items ++ line_text l.pre (replicate l.count 32)

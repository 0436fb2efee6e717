use Rattle.std.proofs.Common.{◌≡◌, ◌++◌, take}
use Rattle.html_writer.specs.Page.{line_text}
use Rattle.html_writer.proofs.characters.push_line.Given as goal

-- the characters so far stand behind what was there
abbrev pub invariant-loop-c : goal.invariant-loop-c
invariant-loop-c l = l.page.items ≡ l.initial.page.items ++ line_text l.pre (take l.c-index l.line)

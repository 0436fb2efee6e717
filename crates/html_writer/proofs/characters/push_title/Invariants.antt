use Rattle.std.proofs.Common.{◌≡◌, ◌++◌, take}
use Rattle.html_writer.specs.Page.{title_text}
use Rattle.html_writer.proofs.characters.push_title.Given as goal

-- the bytes so far stand behind what was there
abbrev pub invariant-loop-byte : goal.invariant-loop-byte
invariant-loop-byte l = l.page.items ≡ l.initial.page.items ++ title_text (take l.byte-index l.byte-items)

use Rattle.std.proofs.Common.{◌≡◌, ◌++◌, take}
use Rattle.html_writer.specs.Page.{selector_text}
use Rattle.html_writer.proofs.styles.push_selector.Given as goal

-- the bytes so far stand behind what was there
abbrev pub invariant-loop-byte : goal.invariant-loop-byte
invariant-loop-byte l = l.page.items ≡ l.initial.page.items ++ selector_text (take l.byte-index l.byte-items)

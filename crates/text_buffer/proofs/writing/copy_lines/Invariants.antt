use Rattle.std.proofs.Common.{◌≡◌, take}
use Rattle.text_buffer.proofs.writing.copy_lines.Given as goal

-- the lines so far are copied
abbrev pub invariant-loop-i : goal.invariant-loop-i
invariant-loop-i l = l.copy ≡ take l.i l.lines.0

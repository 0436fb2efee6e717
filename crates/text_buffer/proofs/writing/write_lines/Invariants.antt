use Rattle.std.proofs.Common.{◌≡◌, take}
use Rattle.text_buffer.specs.BytesOfText.{bytes_of}
use Rattle.text_buffer.proofs.writing.write_lines.Given as goal

-- the lines so far are written
abbrev pub invariant-loop-i : goal.invariant-loop-i
invariant-loop-i l = l.bytes.items ≡ bytes_of (take l.i l.lines.0)

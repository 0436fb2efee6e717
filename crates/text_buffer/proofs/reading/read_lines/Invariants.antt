use Rattle.std.proofs.Common.{◌≡◌, ◌-◌, ◌<◌, ◌≤◌, length}
use Rattle.text_buffer.specs.TextOfBytes.{most_lines}
use Rattle.text_buffer.specs.Reading.{lines_after, read_on}
use Rattle.text_buffer.specs.TextOfBytes.{text_of}
use Rattle.text_buffer.proofs.reading.read_lines.Given as goal

-- the lines read so far, with those from `at` on, make the text
abbrev pub invariant-loop-at : goal.invariant-loop-at
invariant-loop-at l = record {
  so_far : text_of l.bytes ≡ read_on l.lines.0 (lines_after l.bytes l.at);
  some : 0 < length l.lines.0;
  few : length l.lines.0 ≤ most_lines;
}

abbrev pub decreases-loop-at : goal.decreases-loop-at
decreases-loop-at l = length l.bytes - l.at
